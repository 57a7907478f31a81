-- Which direct buffers are free, and which reads have them, when the use of one changes.
use Rattle.std.proofs.Common.{◌≡◌, ℕ, zero, suc, ◌<◌, List, [], ◌∷◌, length, set, refl, sym, ap, ◌∙◌, Some, None, inl, inr}
use Rattle.std.proofs.lemmas.Bool.{cases_eq, false≢true}
use Rattle.r6_frames.specs.declared.directs.Direct.{Direct}
use Rattle.r6_frames.specs.declared.directs.DirectRead.{DirectRead}
use Rattle.r6_frames.specs.FramesState.{FramesState}
use Rattle.r6_frames.specs.Directs.{direct_at, is_free_direct, lent_for, returned}
use Rattle.r6_frames.specs.Reads.{FewerReaders, FreesDirect, KeepsReaders, TakesDirect}
use Rattle.r6_frames.proofs.DirectReads.{direct_other, direct_own}

read_stays : (directs : List Direct) (number : ℕ) (d : Direct) (k : ℕ) → d.read ≡ (direct_at directs number).read
    → (direct_at (set directs number d) k).read ≡ (direct_at directs k).read
read_stays [] number d k same = refl
read_stays (x ∷ directs) zero d zero same = same
read_stays (x ∷ directs) zero d (suc k) same = refl
read_stays (x ∷ directs) (suc number) d zero same = refl
read_stays (x ∷ directs) (suc number) d (suc k) same = read_stays directs number d k same

-- a buffer came home
pub readers_kept : (old new : FramesState) (number : ℕ) (buffer : List ℕ) → new.directs ≡ set old.directs number (returned (direct_at old.directs number) buffer)
    → KeepsReaders old new
readers_kept old new number buffer are k =
    ap (λ (ds : List Direct). (direct_at ds k).read) are ∙ read_stays old.directs number (returned (direct_at old.directs number) buffer) k refl

-- a read is handed back
fewer_reads : (directs : List Direct) (number : ℕ) (d : Direct) (k : ℕ) (r : DirectRead) → d.read ≡ None → (direct_at (set directs number d) k).read ≡ Some r
    → (direct_at directs k).read ≡ Some r
fewer_reads [] number d k r none is = is
fewer_reads (x ∷ directs) zero d zero r none is = let both : None ≡ Some r = sym none ∙ is in absurd (cc)
fewer_reads (x ∷ directs) zero d (suc k) r none is = is
fewer_reads (x ∷ directs) (suc number) d zero r none is = is
fewer_reads (x ∷ directs) (suc number) d (suc k) r none is = fewer_reads directs number d k r none is

pub fewer_readers : (old new : FramesState) (number : ℕ) (d : Direct) → d.read ≡ None → new.directs ≡ set old.directs number d → FewerReaders old new
fewer_readers old new number d none are k r is =
    fewer_reads old.directs number d k r none (ap (λ (ds : List Direct). (direct_at ds k).read) (sym are) ∙ is)

pub frees_direct : (old new : FramesState) (number : ℕ) (d : Direct) → new.directs ≡ set old.directs number d → FreesDirect old number new
frees_direct old new number d are other ne free =
    (free.0, sym (ap (λ (ds : List Direct). is_free_direct (direct_at ds other)) are ∙ ap is_free_direct (direct_other old.directs number d other ne)) ∙ free.1)

-- a buffer is lent
pub takes_direct : (old new : FramesState) (number : ℕ) (r : DirectRead) → number < length old.directs → new.directs ≡ set old.directs number (lent_for r) → TakesDirect old number new
takes_direct old new number r within are other free =
    elim (cases_eq other number) [
      | inl e ↦
          let lent = ap (λ (ds : List Direct). is_free_direct (direct_at ds number)) are ∙ ap is_free_direct (direct_own old.directs number (lent_for r) within) in
          absurd (false≢true (sym lent ∙ ap (λ (k : ℕ). is_free_direct (direct_at new.directs k)) (sym e) ∙ free.1))
      | inr ne ↦ (ne, frees_direct old new number (lent_for r) are other ne free)
    ]
