-- No count of a shard falls.
use Rattle.std.proofs.Common.{ℕ, arith}
use Rattle.r6_recover.specs.declared.class.RowClass.{RowClass}
use Rattle.r6_recover.specs.declared.class.RowClass.TheVariants.{Consistent, WrongP, WrongQ, WrongData, Many}
use Rattle.r6_world.specs.Layouts.{Layout}
use Rattle.r6_world.specs.Tasks.{Task, ReadFor, WriteFor, Rebuild, Check, Repair, Outcome, Answered, Wrote, Rebuilt, GivenUp, Classed, Skipped}
use Rattle.r6_world.specs.ShardStates.{Counts}
use Rattle.r6_world.specs.Changes.{Finish, Give_over, Skip_turn, counted, slots_in_error, with_class, with_repair}
use Rattle.r6_world.specs.Steps.{Event}
use Rattle.r6_world.proofs.Changes.{Keeps, lost-kept}
use Rattle.r6_shard.specs.Refusing.{CountsRise}

pub rise-none : (k : Counts) → CountsRise k k
rise-none k = record {
  consistent = omega arith;
  wrong_p = omega arith;
  wrong_q = omega arith;
  wrong_data = omega arith;
  many = omega arith;
  skipped = omega arith;
}

pub rise-on : (a b c : Counts) → CountsRise a b → CountsRise b c → CountsRise a c
rise-on a b c x y = record {
  consistent = omega (arith, x.consistent, y.consistent);
  wrong_p = omega (arith, x.wrong_p, y.wrong_p);
  wrong_q = omega (arith, x.wrong_q, y.wrong_q);
  wrong_data = omega (arith, x.wrong_data, y.wrong_data);
  many = omega (arith, x.many, y.many);
  skipped = omega (arith, x.skipped, y.skipped);
}

rise-repair : (first k : Counts) (task : Task) (class : RowClass) → CountsRise first k → CountsRise first (with_repair k task class)
rise-repair first k (ReadFor id block) class x = x
rise-repair first k (WriteFor writes) class x = x
rise-repair first k (Rebuild slot generation) class x = x
rise-repair first k Check class x = x
rise-repair first k Repair Consistent x = x
rise-repair first k Repair WrongP x =
    record { consistent = x.consistent; wrong_p = x.wrong_p; wrong_q = x.wrong_q; wrong_data = x.wrong_data; many = x.many; skipped = x.skipped }
rise-repair first k Repair WrongQ x =
    record { consistent = x.consistent; wrong_p = x.wrong_p; wrong_q = x.wrong_q; wrong_data = x.wrong_data; many = x.many; skipped = x.skipped }
rise-repair first k Repair (WrongData index) x =
    record { consistent = x.consistent; wrong_p = x.wrong_p; wrong_q = x.wrong_q; wrong_data = x.wrong_data; many = x.many; skipped = x.skipped }
rise-repair first k Repair Many x =
    record { consistent = x.consistent; wrong_p = x.wrong_p; wrong_q = x.wrong_q; wrong_data = x.wrong_data; many = x.many; skipped = x.skipped }

rise-class : (first k : Counts) (class : RowClass) → CountsRise first k → CountsRise first (with_class k class)
rise-class first k Consistent x =
    record { consistent = omega (arith, x.consistent); wrong_p = x.wrong_p; wrong_q = x.wrong_q; wrong_data = x.wrong_data; many = x.many; skipped = x.skipped }
rise-class first k WrongP x =
    record { consistent = x.consistent; wrong_p = omega (arith, x.wrong_p); wrong_q = x.wrong_q; wrong_data = x.wrong_data; many = x.many; skipped = x.skipped }
rise-class first k WrongQ x =
    record { consistent = x.consistent; wrong_p = x.wrong_p; wrong_q = omega (arith, x.wrong_q); wrong_data = x.wrong_data; many = x.many; skipped = x.skipped }
rise-class first k (WrongData index) x =
    record { consistent = x.consistent; wrong_p = x.wrong_p; wrong_q = x.wrong_q; wrong_data = omega (arith, x.wrong_data); many = x.many; skipped = x.skipped }
rise-class first k Many x =
    record { consistent = x.consistent; wrong_p = x.wrong_p; wrong_q = x.wrong_q; wrong_data = x.wrong_data; many = omega (arith, x.many); skipped = x.skipped }

rise-counted : (first k : Counts) (task : Task) (outcome : Outcome) → CountsRise first k → CountsRise first (counted k task outcome)
rise-counted first k task (Answered b) x = x
rise-counted first k task Wrote x = x
rise-counted first k task Rebuilt x =
    record { consistent = x.consistent; wrong_p = x.wrong_p; wrong_q = x.wrong_q; wrong_data = x.wrong_data; many = x.many; skipped = x.skipped }
rise-counted first k task GivenUp x = x
rise-counted first k task (Classed class) x = rise-repair first (with_class k class) task class (rise-class first k class x)
rise-counted first k task Skipped x =
    record { consistent = x.consistent; wrong_p = x.wrong_p; wrong_q = x.wrong_q; wrong_data = x.wrong_data; many = x.many; skipped = omega (arith, x.skipped) }

pub still-risen : (l : Layout) (n : ℕ) (first : Counts) (event : Event) → Keeps l n (λ s. CountsRise first s.counts) event
still-risen l n first event s (Finish f h outcome) within a x = rise-counted first s.counts h.task outcome x
still-risen l n first event s (Skip_turn task row) within a x =
    record { consistent = x.consistent; wrong_p = x.wrong_p; wrong_q = x.wrong_q; wrong_data = x.wrong_data; many = x.many; skipped = omega (arith, x.skipped) }
still-risen l n first event s (Give_over f h) within a x =
    lost-kept l (λ s. CountsRise first s.counts) (λ s slot x. x) (slots_in_error l h) s x
still-risen l n first event s change within a x = x
