-- What is known of one event, once all was said.
use Rattle.std.proofs.Common.{◌≡◌, ◌∙◌, ℕ, ◌+◌, ◌<◌, ◌≤◌, ◌==◌, List, [], ◌∷◌, ◌++◌, length, map, zero, suc, cond, inl, inr, refl, sym, ap, subst, arith, Some, slice_get, slice_index_or, slice_set, get_or-set_same, get_or-set_other, sum_by}
use Rattle.std.proofs.lemmas.Bool.{cases_eq, eq-eqb, ne_eqb}
use Rattle.std.proofs.lemmas.List.{length-set}
use Rattle.std.proofs.lemmas.List.Sums.{sum_by-cons}
use Rattle.std.proofs.lemmas.Option.{none-some}
use Rattle.r6_engine.specs.declared.reply.EventReply.{EventReply}
use Rattle.r6_engine.specs.declared.reply.EventReply.TheVariants.{Waited}
use Rattle.r6_engine.specs.Replies.{Said, known_with, with_all, with_one}
use Rattle.r6_engine.proofs.EachShard.{some_same}

-- how often something was said of the event
abbrev pub is_of : (event : ℕ) → ℕ → ℕ
is_of event number = cond (number == event) 1 0

abbrev pub times : (event : ℕ) → List Said → ℕ
times event said = sum_by (λ s. is_of event s.0) said

-- what is known of the event once these were said, where this was known before
abbrev pub known : (event : ℕ) → EventReply → List Said → EventReply
known event reply [] = reply
known event reply (s ∷ said) = known event (cond (s.0 == event) (known_with reply s.1) reply) said

one-at : (replies : List EventReply) (s : Said) (event : ℕ) → event < length replies
    → slice_index_or (with_one replies s) event Waited
    ≡ cond (s.0 == event) (known_with (slice_index_or replies event Waited) s.1) (slice_index_or replies event Waited)
one-at replies s event below = elim (cases_eq s.0 event) [
  | inl same ↦
      ap (λ k. slice_index_or (slice_set replies k (known_with (slice_index_or replies k Waited) s.1)) event Waited) same
      ∙ get_or-set_same replies event (known_with (slice_index_or replies event Waited) s.1) Waited below
      ∙ sym (ap (λ b. cond b (known_with (slice_index_or replies event Waited) s.1) (slice_index_or replies event Waited)) (eq-eqb s.0 event same))
  | inr ne ↦
      get_or-set_other replies s.0 event (known_with (slice_index_or replies s.0 Waited) s.1) Waited (λ same. ne (sym same))
      ∙ sym (ap (λ b. cond b (known_with (slice_index_or replies event Waited) s.1) (slice_index_or replies event Waited)) (ne_eqb s.0 event ne))
]

pub known-at : (replies : List EventReply) (said : List Said) (event : ℕ) → event < length replies
    → slice_index_or (with_all replies said) event Waited ≡ known event (slice_index_or replies event Waited) said
known-at replies [] event below = refl
known-at replies (s ∷ said) event below =
    known-at (with_one replies s) said event (subst (λ n. event < n) (sym (length-set replies s.0 _)) below)
    ∙ ap (λ reply. known event reply said) (one-at replies s event below)

pub known-both : (event : ℕ) (reply : EventReply) (said more : List Said)
    → known event reply (said ++ more) ≡ known event (known event reply said) more
known-both event reply [] more = refl
known-both event reply (s ∷ said) more = known-both event (cond (s.0 == event) (known_with reply s.1) reply) said more

-- ---- how often

pub times-cons : (event : ℕ) (s : Said) (said : List Said) → times event (s ∷ said) ≡ is_of event s.0 + times event said
times-cons event s said = sum_by-cons (λ (y : Said). is_of event y.0) s said

pub is-of : (event number : ℕ) → number ≡ event → is_of event number ≡ 1
is-of event number same = ap (λ b. cond b 1 0) (eq-eqb number event same)

pub is-not_of : (event number : ℕ) → (number ≡ event → ⊥) → is_of event number ≡ 0
is-not_of event number ne = ap (λ b. cond b 1 0) (ne_eqb number event ne)

-- nothing was said of it
pub none-known : (event : ℕ) (reply : EventReply) (said : List Said) → times event said ≡ 0 → known event reply said ≡ reply
none-known event reply [] none = refl
none-known event reply (s ∷ said) none =
    let both = times-cons event s said in
    elim (cases_eq s.0 event) [
      | inl same ↦ let here = is-of event s.0 same in absurd (omega (arith, both, here, none))
      | inr ne ↦
          ap (λ b. known event (cond b (known_with reply s.1) reply) said) (ne_eqb s.0 event ne)
          ∙ none-known event reply said (let here = is-not_of event s.0 ne in omega (arith, both, here, none))
    ]

pub some-times : (event : ℕ) (said : List Said) (k : ℕ) (r : EventReply) → slice_get said k ≡ Some (event, r) → 1 ≤ times event said
some-times event [] k r at = absurd (none-some (event, r) at)
some-times event (s ∷ said) zero r at =
    let both = times-cons event s said in
    let here = is-of event s.0 (ap (λ (y : Said). y.0) (some_same s (event, r) at)) in omega (arith, both, here)
some-times event (s ∷ said) (suc k) r at =
    let both = times-cons event s said in
    let more = some-times event said k r at in omega (arith, both, more)

-- just one thing was said of it: that counts
pub one-known : (event : ℕ) (reply r : EventReply) (said : List Said) (k : ℕ) → times event said ≡ 1 → slice_get said k ≡ Some (event, r)
    → known event reply said ≡ known_with reply r
one-known event reply r [] k one at = absurd (none-some (event, r) at)
one-known event reply r (s ∷ said) zero one at =
    let both = times-cons event s said in
    let is = some_same s (event, r) at in
    let same : s.0 ≡ event = ap (λ (y : Said). y.0) is in
    let here = is-of event s.0 same in
    ap (λ b. known event (cond b (known_with reply s.1) reply) said) (eq-eqb s.0 event same)
    ∙ none-known event (known_with reply s.1) said (omega (arith, both, here, one))
    ∙ ap (λ (y : Said). known_with reply y.1) is
one-known event reply r (s ∷ said) (suc k) one at =
    let both = times-cons event s said in
    let more = some-times event said k r at in
    elim (cases_eq s.0 event) [
      | inl same ↦ let here = is-of event s.0 same in absurd (omega (arith, both, here, one, more))
      | inr ne ↦
          ap (λ b. known event (cond b (known_with reply s.1) reply) said) (ne_eqb s.0 event ne)
          ∙ one-known event reply r said k (let here = is-not_of event s.0 ne in omega (arith, both, here, one)) at
    ]

-- where something was said of it, it stands somewhere
pub found-time : (event : ℕ) (said : List Said) → 1 ≤ times event said → (k : ℕ) × (r : EventReply) × (slice_get said k ≡ Some (event, r))
found-time event [] some = absurd (omega (arith, some))
found-time event (s ∷ said) some =
    let both = times-cons event s said in
    elim (cases_eq s.0 event) [
      | inl same ↦ (0, s.1, ap (λ number. Some (number, s.1)) same)
      | inr ne ↦
          let later = found-time event said (let here = is-not_of event s.0 ne in omega (arith, both, here, some)) in
          (suc later.0, later.1, later.2)
    ]

-- what was said of each of these
pub times-map : {X : Type 0} (g : X → Said) (event : ℕ) (xs : List X) → times event (map g xs) ≡ sum_by (λ x. is_of event (g x).0) xs
times-map g event [] = refl
times-map g event (x ∷ xs) =
    times-cons event (g x) (map g xs) ∙ ap (λ n. is_of event (g x).0 + n) (times-map g event xs)
    ∙ sym (sum_by-cons (λ x. is_of event (g x).0) x xs)
