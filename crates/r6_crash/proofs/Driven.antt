-- After every call of a live shard nothing comes next in any hold.
use Rattle.std.proofs.Common.{◌≡◌, ℕ, ◌<◌, List, [], ◌∷◌, inl, inr, refl, sym, subst, Some, None}
use Rattle.std.proofs.lemmas.Bool.{cases_eq}
use Rattle.r6_stripe.specs.Plans.{next as next_of}
use Rattle.r6_world.specs.Tables.{put}
use Rattle.r6_world.specs.Layouts.{Layout}
use Rattle.r6_world.specs.Registers.{Snapshot}
use Rattle.r6_world.specs.Tasks.{Hold, planned}
use Rattle.r6_world.specs.ShardStates.{Shard, IsLive}
use Rattle.r6_world.specs.Steps.{AtRest, Event, Submit, Submit_all, Deliver, Look, Turn_started, Turn_skipped, Take_command, No_command, Take_call, No_call, Told, Take_reply, No_reply, Step}
use Rattle.r6_world.specs.Worlds.{World, Devices, Happening, Core, Perform, Tell, Outside, Moment, Possible, Run, next, started}
use Rattle.r6_world.specs.Laws.{IsOfOutside}
use Rattle.r6_world.specs.Witness.{after_all}
use Rattle.r6_world.proofs.Tables.{put-same, put-other, not_both}

abbrev pub Driven : Layout → Shard → Type 0
Driven l s = IsLive l s → (f : ℕ) (h : Hold) → s.frame f ≡ Some h → next_of (planned h) ≡ None

at-rest : (l : Layout) (n : ℕ) (s : Shard) → AtRest l n s → Driven l s
at-rest l n s rest live f h here = rest.nothing_next live f h here

driven-step : (l : Layout) (n : ℕ) (old : Shard) (event : Event) (new : Shard) → Driven l old → Step l n old event new
    → Driven l new
driven-step l n old (Submit op id) new d s = at-rest l n new s.3
driven-step l n old (Submit_all ops first) new d s = at-rest l n new s.3
driven-step l n old (Deliver token completion receipt) new d s = at-rest l n new s.6
driven-step l n old (Look seen) new d s = at-rest l n new s.6
driven-step l n old (Turn_started task) new d s = at-rest l n new s.5
driven-step l n old (Turn_skipped task row) new d s = at-rest l n new s.2
driven-step l n old (Take_command token c) new d s = subst (Driven l) (sym s.1) d
driven-step l n old No_command new d s = subst (Driven l) (sym s.1) d
driven-step l n old (Take_call call) new d s = subst (Driven l) (sym s.2) d
driven-step l n old No_call new d s = subst (Driven l) (sym s.1) d
driven-step l n old (Told call answer) new d s = subst (Driven l) (sym s.1) d
driven-step l n old (Take_reply id reply) new d s = subst (Driven l) (sym s.2) d
driven-step l n old No_reply new d s = subst (Driven l) (sym s.1) d

abbrev pub AllDriven : Layout → World → Type 0
AllDriven l w = (n : ℕ) → n < l.shards → Driven l (w.shard n)

put-driven : (l : Layout) (w : World) (n : ℕ) (new : Shard) → AllDriven l w → Driven l new → (m : ℕ) → m < l.shards
    → Driven l (put w.shard n new m)
put-driven l w n new all d m below = elim (cases_eq m n) [
  | inl same ↦ subst (Driven l) (sym (put-same w.shard n new m same)) d
  | inr ne ↦ subst (Driven l) (sym (put-other w.shard n new m ne)) (all m below)
]

driven-next : (l : Layout) (w : World) (h : Happening) (noise : Devices) → AllDriven l w → Possible l IsOfOutside w h
    → AllDriven l (next l w (record { happening = h; noise = noise }))
driven-next l w (Core n event new) noise all p m below =
    put-driven l w n new all (driven-step l n (w.shard n) event new (all n p.0) p.2) m below
driven-next l w (Perform n token c) noise all p m below = all m below
driven-next l w (Tell n call answer middle new) noise all p m below =
    let between = driven-step l n (w.shard n) (Take_call call) middle (all n p.0) p.2 in
    put-driven l w n new all (driven-step l n middle (Told call answer) new between p.3) m below
driven-next l w (Outside call) noise all p m below = all m below

driven-all : (l : Layout) (moments : List Moment) (w : World) → AllDriven l w → Run l IsOfOutside w moments
    → AllDriven l (after_all l w moments)
driven-all l [] w all may = all
driven-all l (m ∷ moments) w all may =
    driven-all l moments (next l w m) (driven-next l w m.happening m.noise all may.0) may.1

pub driven-run : (l : Layout) (r : Snapshot) (device : Devices) (moments : List Moment)
    → Run l IsOfOutside (started l r device) moments → AllDriven l (after_all l (started l r device) moments)
driven-run l r device moments may =
    driven-all l moments (started l r device) (λ m low live f h e. absurd (not_both None h refl e)) may
