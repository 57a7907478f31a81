-- Answers are honest histories, and keep what is promised.
use Rattle.std.proofs.Common.{◌≡◌, ℕ, Bool, true, false, true≢false, List, [], ◌∷◌, ◌++◌, map, inl, inr, refl, sym, ap, subst, ◌∙◌, Some, None}
use Rattle.std.specs.Prelude.{◌==◌, ◌&&◌, if◌then◌else◌}
use Rattle.std.proofs.lemmas.Bool.{cases_Bool, and_parts, eqb-true}
use Rattle.r6_dev.specs.History.{Telling, Entry, Reads, Writes, Misses, Fails, Answers, IsCourse, HistoryLaw}
use Rattle.r6_dev.specs.Promises.{Promise}
use Rattle.r6_world.specs.declared.values.Command.{Command}
use Rattle.r6_exchange.specs.declared.task.ServedPart.{ServedPart}
use Rattle.r6_exchange.specs.declared.task.WorkerTask.{WorkerTask}
use Rattle.r6_exchange.specs.declared.task.WorkerTask.TheVariants.{Perform, TakeUp, End}
use Rattle.r6_exchange.specs.declared.completion.Completion.{Completion}
use Rattle.r6_exchange.specs.Answering.{Known, State, nothing, promise_if, known_of, entry_of, FitsTelling, MayAnswer, IsPromised, telling_after, known_after, performed, taken_up, Answered}
use Rattle.r6_exchange.specs.Histories.{history_of, left_for, FailsNone, tokens_in, HonestyLaw, SoundLaw, OnceLaw}
use Rattle.r6_exchange.proofs.Parts.{both-same, put-there, put-elsewhere}

unless : {A : Type 0} (b : Bool) (x y : A) → b ≡ false → (if b then x else y) ≡ y
unless b x y e = rw e

when : {A : Type 0} (b : Bool) (x y : A) → b ≡ true → (if b then x else y) ≡ x
when b x y e = rw e

-- an honest answer goes on with a course
goes-on : (t : Telling) (e : Entry) → FitsTelling t e → Answers t e (telling_after t e)
goes-on None e m = tt
goes-on (Some blocks) (Reads row block) m = (m, refl)
goes-on (Some blocks) (Writes row block) m = refl
goes-on (Some blocks) (Misses row) m = refl
goes-on (Some blocks) Fails m = tt

abbrev after-entry : Known → Entry → Known
after-entry k e = record { telling = telling_after k.telling e; promise = k.promise }

module _ {D : Type 0} (told : D → Telling) (promised : D → Promise) where
  -- what is known of the device of a command after its answer
  same-device : (state : State) (c : Command) (a : Completion) (s g : ℕ) (k : Known) → state s g ≡ Some k
      → ((s == c.slot) && (g == c.generation)) ≡ true
      → (state c.slot c.generation ≡ Some k) × (performed state c a s g ≡ Some (after-entry k (entry_of c a)))
  same-device state c a s g k at yes' =
      let p = and_parts (s == c.slot) (g == c.generation) yes' in
      let same : state c.slot c.generation ≡ state s g =
      ap (λ y. state y c.generation) (sym (eqb-true s c.slot p.0)) ∙ ap (state s) (sym (eqb-true g c.generation p.1)) in
      let here : state c.slot c.generation ≡ Some k = same ∙ at in
      (here, put-there state c.slot c.generation (known_after (state c.slot c.generation) (entry_of c a)) s g yes' ∙ ap (λ y. known_after y (entry_of c a)) here)

  other-device : (state : State) (c : Command) (a : Completion) (s g : ℕ) (k : Known) → state s g ≡ Some k
      → ((s == c.slot) && (g == c.generation)) ≡ false → performed state c a s g ≡ Some k
  other-device state c a s g k at no' =
      put-elsewhere state c.slot c.generation (known_after (state c.slot c.generation) (entry_of c a)) s g no' ∙ at

  other-part : (state : State) (served : ServedPart D) (s g : ℕ) (k : Known) → state s g ≡ Some k
      → ((s == served.part.slot) && (g == served.part.generation)) ≡ false → taken_up told promised state served s g ≡ Some k
  other-part state served s g k at no' =
      put-elsewhere state served.part.slot served.part.generation (Some (known_of told promised served)) s g no' ∙ at

  course : (state : State) (answers : List Completion) (tasks : List (WorkerTask D)) (s g : ℕ) (k : Known) → Answered told promised state answers tasks
      → state s g ≡ Some k → IsCourse k.telling (history_of s g answers tasks)
  course state [] tasks s g k x at = tt
  course state (a ∷ answers) [] s g k x at = absurd x
  course state (a ∷ answers) (End ∷ tasks) s g k x at = course state (a ∷ answers) tasks s g k x at
  course state (a ∷ answers) (TakeUp served ∷ tasks) s g k x at =
      let b = (s == served.part.slot) && (g == served.part.generation) in
      let rest = history_of s g (a ∷ answers) tasks in
      elim (cases_Bool b) [
        | inl yes' ↦ subst (IsCourse k.telling) (sym (when b [] rest yes')) tt
        | inr no' ↦ subst (IsCourse k.telling) (sym (unless b [] rest no'))
            (course (taken_up told promised state served) (a ∷ answers) tasks s g k x (other-part state served s g k at no'))
      ]
  course state (a ∷ answers) (Perform c ∷ tasks) s g k x at =
      let b = (s == c.slot) && (g == c.generation) in
      let e = entry_of c a in
      let rest = history_of s g answers tasks in
      elim (cases_Bool b) [
        | inl yes' ↦
            let same = same-device state c a s g k at yes' in
            subst (IsCourse k.telling) (sym (when b (e ∷ rest) rest yes')) (
              telling_after k.telling e,
              goes-on k.telling e (subst (λ y. MayAnswer y e) same.0 x.0.honest),
              course (performed state c a) answers tasks s g (after-entry k e) x.1 same.1,
            )
        | inr no' ↦
            subst (IsCourse k.telling) (sym (unless b (e ∷ rest) rest no'))
            (course (performed state c a) answers tasks s g k x.1 (other-device state c a s g k at no'))
      ]

  fails-none : (state : State) (answers : List Completion) (tasks : List (WorkerTask D)) (s g : ℕ) (k : Known)
      → Answered told promised state answers tasks → state s g ≡ Some k → FailsNone s g k.promise answers tasks
  fails-none state [] tasks s g k x at = tt
  fails-none state (a ∷ answers) [] s g k x at = tt
  fails-none state (a ∷ answers) (End ∷ tasks) s g k x at = fails-none state (a ∷ answers) tasks s g k x at
  fails-none state (a ∷ answers) (TakeUp served ∷ tasks) s g k x at =
      λ no'. fails-none (taken_up told promised state served) (a ∷ answers) tasks s g k x (other-part state served s g k at no')
  fails-none state (a ∷ answers) (Perform c ∷ tasks) s g k x at =
      elim (cases_Bool ((s == c.slot) && (g == c.generation))) [
        | inl yes' ↦
            let same = same-device state c a s g k at yes' in (
              (λ _ covers. x.0.sound (subst (λ y. IsPromised y c) (sym same.0) covers)),
              fails-none (performed state c a) answers tasks s g (after-entry k (entry_of c a)) x.1 same.1,
            )
        | inr no' ↦ (
          (λ yes' _. absurd (true≢false (sym yes' ∙ no'))),
          fails-none (performed state c a) answers tasks s g k x.1 (other-device state c a s g k at no'),
        )
      ]

  -- what is answered once a part is taken up
  reaches : (state : State) (answers : List Completion) (before : List (WorkerTask D)) (served : ServedPart D) (after : List (WorkerTask D))
      → Answered told promised state answers (before ++ TakeUp served ∷ after)
      → (prior : State) × Answered told promised (taken_up told promised prior served) (left_for answers before) after
  reaches state [] before served after x = (state, tt)
  reaches state (a ∷ answers) [] served after x = (state, x)
  reaches state (a ∷ answers) (TakeUp first ∷ before) served after x = reaches (taken_up told promised state first) (a ∷ answers) before served after x
  reaches state (a ∷ answers) (End ∷ before) served after x = reaches state (a ∷ answers) before served after x
  reaches state (a ∷ answers) (Perform c ∷ before) served after x = reaches (performed state c a) answers before served after x.1

  own-part : (state : State) (served : ServedPart D)
      → taken_up told promised state served served.part.slot served.part.generation ≡ Some (known_of told promised served)
  own-part state served =
      let s = served.part.slot in
      let g = served.part.generation in
      put-there state s g (Some (known_of told promised served)) s g (both-same s g)

  pub honesty_law : HistoryLaw → HonestyLaw told promised
  honesty_law law answers tasks x before after served start is telling =
      let r = reaches nothing answers before served after (subst (Answered told promised nothing answers) is x) in
      let s = served.part.slot in
      let g = served.part.generation in
      let left = left_for answers before in
      law start (history_of s g left after)
      (subst (λ y. IsCourse y (history_of s g left after)) telling
      (course (taken_up told promised r.0 served) left after s g (known_of told promised served) r.1 (own-part r.0 served)))

  pub sound_law : SoundLaw told promised
  sound_law answers tasks x before after served is steady =
      let r = reaches nothing answers before served after (subst (Answered told promised nothing answers) is x) in
      let s = served.part.slot in
      let g = served.part.generation in
      let left = left_for answers before in
      subst (λ (b : Bool). FailsNone s g (promise_if b (promised served.part.device)) left after) steady
      (fails-none (taken_up told promised r.0 served) left after s g (known_of told promised served) r.1 (own-part r.0 served))

  once : (state : State) (answers : List Completion) (tasks : List (WorkerTask D)) → Answered told promised state answers tasks
      → (rest : List ℕ) × (tokens_in tasks ≡ map (λ (a : Completion). a.token) answers ++ rest)
  once state [] tasks x = (tokens_in tasks, refl)
  once state (a ∷ answers) [] x = absurd x
  once state (a ∷ answers) (TakeUp served ∷ tasks) x = once (taken_up told promised state served) (a ∷ answers) tasks x
  once state (a ∷ answers) (End ∷ tasks) x = once state (a ∷ answers) tasks x
  once state (a ∷ answers) (Perform c ∷ tasks) x =
      let r = once (performed state c a) answers tasks x.1 in (r.0, λ i. sym x.0.token i ∷ r.1 i)

  pub once_law : OnceLaw told promised
  once_law answers tasks x = once nothing answers tasks x
