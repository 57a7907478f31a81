-- Ends at which nothing was sent yet.
use Rattle.std.proofs.Common.{◌≡◌, ℕ, zero, suc, ◌<◌, ◌≤◌, List, [], ◌∷◌, ◌++◌, length, refl, sym, ap, subst, ◌∙◌, arith, Option, None}
use Rattle.std.specs.Prelude.{◌%◌}
use Rattle.std.specs.List.{Contains}
use Rattle.r6_dev.specs.History.{Telling}
use Rattle.r6_dev.specs.Promises.{Promise}
use Rattle.r6_exchange.specs.declared.pass.ShardPass.{ShardPass}
use Rattle.r6_engine.specs.remote.Lines.{Lines, sent_to, received_from, limit_at, lines_of, joined, under, promise_of}
use Rattle.r6_engine.specs.remote.Remotes.{AreFresh, AreDistinct, IsKept, goes_on, performer_in, fresh_performer}

pub joined-none : {A : Type 0} (n : ℕ) → joined {A = A} n (λ k. []) ≡ []
joined-none zero = refl
joined-none (suc n) = ap (λ y. y ++ []) (joined-none n)

none-here : {A : Type 0} (x : A) → Contains [] x → ⊥
none-here x c = let below = c.1 in omega (arith, below)

module _ {D : Type 0} where
  sent-none : (room : ℕ) (passes : List (ShardPass D)) → AreFresh room passes → (k : ℕ) → sent_to passes k ≡ []
  sent-none room [] x k = refl
  sent-none room (p ∷ passes) x zero = x.0.0
  sent-none room (p ∷ passes) x (suc k) = sent-none room passes x.1 k

  received-none : (room : ℕ) (passes : List (ShardPass D)) → AreFresh room passes → (k : ℕ) → received_from passes k ≡ []
  received-none room [] x k = refl
  received-none room (p ∷ passes) x zero = x.0.1
  received-none room (p ∷ passes) x (suc k) = received-none room passes x.1 k

  limits : (room : ℕ) (passes : List (ShardPass D)) → AreFresh room passes → (k : ℕ) → k < length passes → room ≤ limit_at passes k
  limits room [] x k below = absurd (omega (arith, below))
  limits room (p ∷ passes) x zero below = x.0.2
  limits room (p ∷ passes) x (suc k) below = limits room passes x.1 k (omega (arith, below))

module _ {D : Type 0} (told : D → Telling) (promised : D → Promise) (room : ℕ) (passes : List (ShardPass D)) (fresh : AreFresh room passes) where
  lines-none : lines_of passes ≡ record { workers = length passes; sent = λ k. []; received = λ k. []; limit = limit_at passes }
  lines-none = λ i. record {
    workers = length passes;
    sent = λ k. sent-none room passes fresh k i;
    received = λ k. received-none room passes fresh k i;
    limit = limit_at passes;
  }

  pub fresh-performer : (stop : Option ℕ) → performer_in told promised (lines_of passes) [] room stop None
      ≡ fresh_performer room (λ slot. goes_on stop (slot % length passes))
  fresh-performer stop =
      ap (λ (y : Lines D). performer_in told promised y [] room stop None) lines-none
      ∙ (λ i. record {
        tells = λ slot generation. None;
        promised = λ slot generation. promise_of None;
        steady = λ slot. goes_on stop (slot % length passes);
        labels = [];
        part_room = room;
        out = λ token. under token (joined-none (length passes) i);
      })

  pub fresh-kept : (bound : ℕ) → 1 ≤ length passes → IsKept told promised (lines_of passes) [] room None 0 bound
  fresh-kept bound some =
      subst (λ (y : Lines D). IsKept told promised y [] room None 0 bound) (sym lines-none)
      (record {
        some = some;
        renewed = λ k. tt;
        own = λ k. tt;
        distinct = subst AreDistinct (sym (joined-none (length passes))) tt;
        counted = λ low. ap length (sym (joined-none (length passes)));
        here = λ s g x. absurd (none-here (s, g) x);
        labelled = λ k. refl;
        limits = limits room passes fresh;
        «open» = λ k. tt;
      })
