-- The pieces of work of threads that were started, from the last piece of work on, and that are joined (this project's own).
use Rattle.std.proofs.Common.{◌≡◌, Bool, true, false, List, [], ◌∷◌, ◌++◌, ◌+◌, ◌<◌, ◌≤◌, ℕ, All, length, Option, Some, None, refl, sym, ap, subst, ◌∙◌, map, reverse, length-append, arith}
use Rattle.std.specs.List.{AllZip}
use Rattle.std.specs.Option.{option_to_list}
use Rattle.std.proofs.lemmas.List.{append_assoc, append-nil, reverse-append, length-map, length-reverse}
use Rattle.std.proofs.lemmas.Slice.Zip.{all_zipped_more}
use Rattle.r6_threads.specs.Works.{HasEnded, in_order}

pub ended_done : {W : Type 0} (done : W → W → Type 0) (begun : Bool) (before after : W)
    → begun ≡ true → HasEnded done begun before after → done before after
ended_done done true before after is ended = ended
ended_done done false before after is ended = absurd (cc is)

pub ended_back : {W : Type 0} (done : W → W → Type 0) (begun : Bool) (before after : W)
    → begun ≡ false → HasEnded done begun before after → after ≡ before
ended_back done true before after is ended = absurd (cc is)
ended_back done false before after is ended = ended

-- what was popped
pub popped : {A : Type 0} (old new : List A) (last : Option A) (a : A) → old ≡ new ++ option_to_list last → last ≡ Some a → old ≡ new ++ a ∷ []
popped old new last a items is = items ∙ ap (λ o. new ++ option_to_list o) is

in_order_last : {W H : Type 0} (work : H → W) (handles : List H) (last : H) → in_order work (handles ++ last ∷ []) ≡ work last ∷ in_order work handles
in_order_last work handles last = ap (map work) (reverse-append handles (last ∷ []))

-- one more is started
pub start_one : {W H : Type 0} (work : H → W) (all left rest : List W) (one : W) (handles : List H) (handle : H)
    → all ≡ left ++ in_order work handles → left ≡ rest ++ one ∷ [] → work handle ≡ one
    → all ≡ rest ++ in_order work (handles ++ handle ∷ [])
start_one work all left rest one handles handle so_far last is =
    so_far ∙ ap (λ (l : List _). l ++ in_order work handles) last
    ∙ append_assoc rest (one ∷ []) (in_order work handles)
    ∙ ap (λ w. rest ++ w ∷ in_order work handles) (sym is)
    ∙ ap (λ l. rest ++ l) (sym (in_order_last work handles handle))

-- so many pieces of work are done, and these are left
pub record IsJoined {W : Type 0} (done : W → W → Type 0) (all works left : List W) : Type 0 where
  pub taken : List W
  pub is : all ≡ taken ++ left
  pub each : AllZip done taken works

pub join_one : {W H : Type 0} (done : W → W → Type 0) (work : H → W) (all works : List W) (handles rest : List H) (handle : H) (one : W)
    → IsJoined done all works (in_order work handles) → handles ≡ rest ++ handle ∷ [] → done (work handle) one
    → IsJoined done all (works ++ one ∷ []) (in_order work rest)
join_one done work all works handles rest handle one so_far last is = record {
  taken = so_far.taken ++ work handle ∷ [];
  is = so_far.is ∙ ap (λ l. so_far.taken ++ in_order work l) last ∙ ap (λ l. so_far.taken ++ l) (in_order_last work rest handle)
      ∙ sym (append_assoc so_far.taken (work handle ∷ []) (in_order work rest));
  each = all_zipped_more done so_far.taken works (work handle) one so_far.each is;
}

-- one more comes back as it was
pub back_one : {W H : Type 0} (work : H → W) (all works : List W) (handles rest : List H) (handle : H) (one : W)
    → all ≡ works ++ in_order work handles → handles ≡ rest ++ handle ∷ [] → one ≡ work handle
    → all ≡ (works ++ one ∷ []) ++ in_order work rest
back_one work all works handles rest handle one so_far last is =
    so_far ∙ ap (λ l. works ++ in_order work l) last ∙ ap (λ l. works ++ l) (in_order_last work rest handle)
    ∙ ap (λ w. works ++ w ∷ in_order work rest) (sym is) ∙ sym (append_assoc works (one ∷ []) (in_order work rest))

-- ---- all are started, or none is begun

-- what was left has room behind what is left, and what was started
pub room_to_join : {W H : Type 0} (work : H → W) (all left : List W) (handles : List H) (long capacity after : ℕ)
    → all ≡ left ++ in_order work handles → long ≡ length all → long ≤ capacity → after ≡ capacity
    → length left + length handles ≤ after
room_to_join work all left handles long capacity after is counted room same =
    let whole = ap length is ∙ length-append left (in_order work handles) in
    let started = length-map (reverse handles) work ∙ length-reverse handles in
    omega arith

pub all_done : {W : Type 0} (done : W → W → Type 0) (all left started works : List W) → all ≡ left ++ started → left ≡ []
    → AllZip done started works → AllZip done all works
all_done done all left started works is none each = subst (λ l. AllZip done l works) (sym (is ∙ ap (λ l. l ++ started) none)) each

pub room_for_one : {W H : Type 0} (work : H → W) (left rest : List W) (one : W) (handles : List H) (long capacity : ℕ)
    → left ≡ rest ++ one ∷ [] → long ≡ length handles → length left + length handles ≤ capacity → long < capacity
room_for_one work left rest one handles long capacity last counted room =
    let shorter = ap length last ∙ length-append rest (one ∷ []) in
    omega arith

pub all_of_none : {H : Type 0} (P : H → Type 0) (handles : List H) → handles ≡ [] → All P handles
all_of_none P handles none = subst (All P) (sym none) (λ k d within. absurd (omega arith))

pub none_started : {W H : Type 0} (work : H → W) (all : List W) (handles : List H) → handles ≡ [] → all ≡ all ++ in_order work handles
none_started work all handles none = sym (append-nil all) ∙ ap (λ hs. all ++ in_order work hs) (sym none)

-- none is left to start
pub emptied : {W H : Type 0} (work : H → W) (all left rest : List W) (last : Option W) (handles : List H)
    → all ≡ left ++ in_order work handles → left ≡ rest ++ option_to_list last → (last ≡ None)
    → all ≡ rest ++ in_order work handles
emptied work all left rest last handles so_far items none =
    so_far ∙ ap (λ l. l ++ in_order work handles)
    (items ∙ ap (λ o. rest ++ option_to_list o) none ∙ append-nil rest)

-- the last one is put back
pub put_back : {W H : Type 0} (work : H → W) (all left rest again : List W) (one back : W) (handles : List H)
    → all ≡ left ++ in_order work handles → left ≡ rest ++ one ∷ [] → again ≡ rest ++ back ∷ [] → back ≡ one
    → all ≡ again ++ in_order work handles
put_back work all left rest again one back handles so_far last is same =
    so_far ∙ ap (λ l. l ++ in_order work handles) (last ∙ ap (λ w. rest ++ w ∷ []) (sym same) ∙ sym is)

pub none_begun : (A : Type 0) (begun : Bool) → begun ≡ false → begun ≡ true → A
none_begun A begun held is = absurd (cc)

pub room_at_first : {H : Type 0} (left capacity : ℕ) (hs : List H) → hs ≡ [] → left ≤ capacity → left + length hs ≤ capacity
room_at_first left capacity hs none room =
    let zero = ap length none in
    omega arith

pub none_of_length : {A : Type 0} (xs : List A) (long : ℕ) → long ≡ length xs → long ≡ 0 → xs ≡ []
none_of_length [] long is none = refl
none_of_length (x ∷ xs) long is none = absurd (omega arith)
