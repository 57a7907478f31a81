-- The requests with a reply, of which the first are released.
use Rattle.std.proofs.Common.{◌≡◌, ℕ, zero, suc, Bool, ◌≤◌, List, [], ◌∷◌, ◌++◌, length, map, refl, sym, ap, ◌∙◌, arith}
use Rattle.std.specs.List.{AllByRecursion}
use Rattle.std.specs.Map.{keys_of}
use Rattle.std.proofs.lemmas.List.{map-append}
use Rattle.std.proofs.lemmas.Map.Entries.{length-keys_of}
use Rattle.r6_world.specs.ShardStates as shards
use Rattle.r6_world.specs.declared.values.Request.{Request}
use Rattle.r6_frames.proofs.Lists.{Entries}
use Rattle.r6_core.specs.declared.state.State.{State}
use Rattle.r6_core.specs.Shards.{requests_of, waiting_request, finished_request, released_request, replied_requests, framed_requests, waiting_of}

abbrev pub numbers : List Request → List ℕ
numbers rs = map (λ r. r.id) rs

-- their numbers are the same whichever are released
pub keys_replied : (seen : Bool) (count : ℕ) (rs : List Request) → keys_of (replied_requests seen count rs) ≡ numbers rs
keys_replied seen zero [] = refl
keys_replied seen zero (r ∷ rs) = ap (λ ks. r.id ∷ ks) (keys_replied seen zero rs)
keys_replied seen (suc count) [] = refl
keys_replied seen (suc count) (r ∷ rs) = ap (λ ks. r.id ∷ ks) (keys_replied seen count rs)

-- the numbers of all requests
pub keys_requests : (s : State) → keys_of (requests_of s) ≡ keys_of (map waiting_request (waiting_of s)) ++ (keys_of (framed_requests s.frames) ++ numbers s.replies.items)
keys_requests s =
    let w = map waiting_request (waiting_of s) in
    let h = framed_requests s.frames in
    let p = replied_requests s.frames.saw_failed s.released s.replies.items in
    map-append (λ e. e.0) w (h ++ p)
    ∙ ap (λ ks. keys_of w ++ ks) (map-append (λ e. e.0) h p ∙ ap (λ ks. keys_of h ++ ks) (keys_replied s.frames.saw_failed s.released s.replies.items))

-- as many entries as keys
pub as_many : (es fs : Entries shards.Request) → keys_of es ≡ keys_of fs → length es ≡ length fs
as_many es fs same = sym (length-keys_of es) ∙ ap length same ∙ length-keys_of fs

pub length_replied : (seen : Bool) (count : ℕ) (rs : List Request) → length (replied_requests seen count rs) ≡ length rs
length_replied seen zero [] = refl
length_replied seen zero (r ∷ rs) = ap suc (length_replied seen zero rs)
length_replied seen (suc count) [] = refl
length_replied seen (suc count) (r ∷ rs) = ap suc (length_replied seen count rs)

-- what holds of each that is released, and of each other
pub all_replied : (Fact : ℕ × shards.Request → Type 0) (seen : Bool) → ((r : Request) → Fact (released_request r)) → ((r : Request) → Fact (finished_request seen r))
    → (count : ℕ) (rs : List Request) → AllByRecursion Fact (replied_requests seen count rs)
all_replied Fact seen released finished zero [] = tt
all_replied Fact seen released finished zero (r ∷ rs) = (finished r, all_replied Fact seen released finished zero rs)
all_replied Fact seen released finished (suc count) [] = tt
all_replied Fact seen released finished (suc count) (r ∷ rs) = (released r, all_replied Fact seen released finished count rs)

-- more are finished, behind them
pub more_replied : (seen : Bool) (count : ℕ) (rs more : List Request) → count ≤ length rs
    → replied_requests seen count (rs ++ more) ≡ replied_requests seen count rs ++ map (finished_request seen) more
more_replied seen zero rs more le = map-append (finished_request seen) rs more
more_replied seen (suc count) [] more le = absurd (omega arith)
more_replied seen (suc count) (r ∷ rs) more le = ap (λ es. released_request r ∷ es) (more_replied seen count rs more (omega arith))

-- all are released
pub released_all : (seen : Bool) (rs : List Request) → replied_requests seen (length rs) rs ≡ map released_request rs
released_all seen [] = refl
released_all seen (r ∷ rs) = ap (λ es. released_request r ∷ es) (released_all seen rs)
