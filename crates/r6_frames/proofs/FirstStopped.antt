-- The direct read that has stopped with the lowest token, among those of the first so many direct buffers.
use Rattle.std.proofs.Common.{◌≡◌, ℕ, zero, suc, List, [], ◌∷◌, ◌+◌, ◌<◌, ◌≤◌, subst, sym, ap, ◌∙◌, inl, inr, Option, Some, None, arith}
use Rattle.std.specs.Prelude.{MatchOption, length, slice_index_or}
use Rattle.std.proofs.lemmas.List.{get_or_default}
use Rattle.std.proofs.lemmas.Bool.{cases_eq}
use Rattle.r6_frames.specs.declared.directs.Direct.{Direct}
use Rattle.r6_frames.specs.declared.directs.DirectRead.{DirectRead}
use Rattle.r6_frames.specs.FramesState.{FramesState}
use Rattle.r6_frames.specs.Directs.{direct_at, no_direct}
use Rattle.r6_frames.specs.Reads.{IsStoppedAt, IsFirstStopped, NoneStopped}
use Rattle.r6_frames.specs.Sound.{IsSound}

-- the direct buffer's read has stopped, and has the token
abbrev pub HasStopped : FramesState → (number token : ℕ) → Type 0
HasStopped fs number token = (r : DirectRead) × IsStoppedAt fs number r × (r.token ≡ token)

-- none of the first that have stopped has a lower token
abbrev pub NoneLower : FramesState → (token count : ℕ) → Type 0
NoneLower fs token count = (other : ℕ) (s : DirectRead) → other < count → IsStoppedAt fs other s → token ≤ s.token

abbrev pub IsFirst : FramesState → ℕ → Option (ℕ × ℕ) → Type 0
IsFirst fs count first =
    MatchOption first ((other : ℕ) (s : DirectRead) → other < count → IsStoppedAt fs other s → ⊥) (λ first. HasStopped fs first.1 first.0 × NoneLower fs first.0 count)

module _ (fs : FramesState) (count : ℕ) where
  -- one more, which hasn't stopped
  pub not_goes_on : (first : Option (ℕ × ℕ)) → ((r : DirectRead) → IsStoppedAt fs count r → ⊥) → IsFirst fs count first → IsFirst fs (count + 1) first
  not_goes_on None none before = λ other s below is.
      elim (cases_eq other count) [ inl same ↦ none s (subst (λ n. IsStoppedAt fs n s) same is) | inr ne ↦ before other s (omega arith) is ]
  not_goes_on (Some first) none before = (
    before.0,
    λ other s below is.
        elim (cases_eq other count) [ inl same ↦ absurd (none s (subst (λ n. IsStoppedAt fs n s) same is)) | inr ne ↦ before.1 other s (omega arith) is ],
  )

  same_read : (r s : DirectRead) → IsStoppedAt fs count r → IsStoppedAt fs count s → r.token ≡ s.token
  same_read r s is also = let both : Some r ≡ Some s = sym is.0 ∙ also.0 in let same : r ≡ s = cc in ap (λ (x : DirectRead). x.token) same

  -- the lowest of the first, and of one more with this token
  lower : (token lowest : ℕ) → lowest ≤ token → HasStopped fs count token → NoneLower fs lowest count → NoneLower fs lowest (count + 1)
  lower token lowest le here before = λ other s below is.
      elim (cases_eq other count) [
        | inl same ↦ let own = same_read here.0 s here.1 (subst (λ n. IsStoppedAt fs n s) same is) in let token = here.2 in omega arith
        | inr ne ↦ before other s (omega arith) is
      ]

  -- one more, which has
  pub goes_on : (token lowest number : ℕ) → lowest ≤ token → HasStopped fs count token → IsFirst fs count (Some (lowest, number)) → IsFirst fs (count + 1) (Some (lowest, number))
  goes_on token lowest number le here before = (before.0, lower token lowest le here before.1)

  pub comes_first : (token lowest number : ℕ) → token < lowest → HasStopped fs count token → IsFirst fs count (Some (lowest, number)) → IsFirst fs (count + 1) (Some (token, count))
  comes_first token lowest number lt here before = (
    here,
    lower token token (omega arith) here (λ other s below is. let le = before.1 other s below is in omega arith),
  )

  pub comes : (token : ℕ) → HasStopped fs count token → IsFirst fs count None → IsFirst fs (count + 1) (Some (token, count))
  comes token here before = (here, lower token token (omega arith) here (λ other s below is. absurd (before other s below is)))

-- a direct buffer that a read has is there
pub read_within : (directs : List Direct) (number : ℕ) (r : DirectRead) → (direct_at directs number).read ≡ Some r → number < length directs
read_within [] number r is = absurd (cc)
read_within (d ∷ directs) zero r is = omega arith
read_within (d ∷ directs) (suc number) r is = omega (arith, read_within directs number r is)

-- what is read at an index
pub direct_found : (directs : List Direct) (number : ℕ) (got : Direct) → number < length directs → got ≡ slice_index_or directs number got → got ≡ direct_at directs number
direct_found directs number got inside value = value ∙ sym (get_or_default directs number no_direct got inside)

-- the slot of a read is one of those that there may be
pub read_slot : (fs : FramesState) (number : ℕ) (r : DirectRead) → IsSound fs → (direct_at fs.directs number).read ≡ Some r → r.slot < 32
read_slot fs number r sound has =
    let slot = (sound.directs.reads number r has).slot in
    let allowed = sound.shape.slots_allowed in
    omega arith

pub first_is : (fs : FramesState) → (token number : ℕ) → IsFirst fs (length fs.directs) (Some (token, number)) → (r : DirectRead) × IsFirstStopped fs number r
first_is fs token number first = (
  first.0.0,
  (
    first.0.1,
    λ other s is.
        let own = first.0.2 in
        let le = first.1 other s (read_within fs.directs other s is.0) is in
        omega arith,
  ),
)

pub none_is : (fs : FramesState) → IsFirst fs (length fs.directs) None → NoneStopped fs
none_is fs none number r is = none number r (read_within fs.directs number r is.0) is
