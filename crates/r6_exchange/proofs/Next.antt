-- One more completion comes.
use Rattle.std.proofs.Common.{◌≡◌, ℕ, true, false, true≢false, List, [], ◌∷◌, ◌++◌, inl, inr, refl, sym, ap, subst, ◌∙◌, Option, Some}
use Rattle.std.specs.Prelude.{◌==◌, ◌&&◌}
use Rattle.std.proofs.lemmas.Bool.{cases_Bool, and_parts, eqb-true}
use Rattle.r6_dev.specs.History.{Telling}
use Rattle.r6_dev.specs.Promises.{Promise}
use Rattle.r6_world.specs.declared.values.Command.{Command}
use Rattle.r6_exchange.specs.declared.task.ServedPart.{ServedPart}
use Rattle.r6_exchange.specs.declared.task.WorkerTask.{WorkerTask}
use Rattle.r6_exchange.specs.declared.task.WorkerTask.TheVariants.{Perform, TakeUp, End}
use Rattle.r6_exchange.specs.declared.completion.Completion.{Completion}
use Rattle.r6_exchange.specs.Answering.{Known, State, nothing, put_at, entry_of, MayAnswer, known_after, known_of, IsPromised, IsAnswer, performed, taken_up, Answered, state_after, unanswered}
use Rattle.r6_exchange.specs.Next.{NotRenewed, NoneRenewed, NextLaw, AllReceivedLaw, AreApart, RenewsNone}
use Rattle.r6_exchange.proofs.Answering.{not-nil}
use Rattle.r6_exchange.proofs.Parts.{both-same, put-there, put-elsewhere}

-- what is put down of two devices may be put down in either order
apart : (s g ps pg d h : ℕ) → ((s == ps) && (g == pg)) ≡ false → ((d == ps) && (h == pg)) ≡ true → ((d == s) && (h == g)) ≡ false
apart s g ps pg d h ne yes' = elim (cases_Bool ((d == s) && (h == g))) [
  | inl same ↦
      let p = and_parts (d == s) (h == g) same in
      let q = and_parts (d == ps) (h == pg) yes' in
      let e : s ≡ ps = sym (eqb-true d s p.0) ∙ eqb-true d ps q.0 in
      let e' : g ≡ pg = sym (eqb-true h g p.1) ∙ eqb-true h pg q.1 in
      absurd (true≢false (sym (both-same ps pg) ∙ ap (λ y. (y == ps) && (pg == pg)) (sym e) ∙ ap (λ y. (s == ps) && (y == pg)) (sym e') ∙ ne))
  | inr no' ↦ no'
]

swap-at : (known : State) (s g ps pg : ℕ) (k v : Option Known) → ((s == ps) && (g == pg)) ≡ false → (d h : ℕ)
    → put_at (put_at known s g k) ps pg v d h ≡ put_at (put_at known ps pg v) s g k d h
swap-at known s g ps pg k v ne d h = elim (cases_Bool ((d == ps) && (h == pg))) [
  | inl yes' ↦
      put-there (put_at known s g k) ps pg v d h yes'
      ∙ sym (put-elsewhere (put_at known ps pg v) s g k d h (apart s g ps pg d h ne yes') ∙ put-there known ps pg v d h yes')
  | inr no' ↦ put-elsewhere (put_at known s g k) ps pg v d h no' ∙ elim (cases_Bool ((d == s) && (h == g))) [
    | inl there ↦ put-there known s g k d h there ∙ sym (put-there (put_at known ps pg v) s g k d h there)
    | inr other ↦
        put-elsewhere known s g k d h other
        ∙ sym (put-elsewhere (put_at known ps pg v) s g k d h other ∙ put-elsewhere known ps pg v d h no')
  ]
]

swap : (known : State) (s g ps pg : ℕ) (k v : Option Known) → ((s == ps) && (g == pg)) ≡ false
    → put_at (put_at known s g k) ps pg v ≡ put_at (put_at known ps pg v) s g k
swap known s g ps pg k v ne = λ i d h. swap-at known s g ps pg k v ne d h i

module _ {D : Type 0} (told : D → Telling) (promised : D → Promise) where
  unrenewed : (state : State) (tasks : List (WorkerTask D)) (c : Command) → NotRenewed c tasks
      → state_after told promised state tasks [] c.slot c.generation ≡ state c.slot c.generation
  unrenewed state [] c x = refl
  unrenewed state (TakeUp served ∷ tasks) c x =
      unrenewed (taken_up told promised state served) tasks c x.1
      ∙ put-elsewhere state served.part.slot served.part.generation (Some (known_of told promised served)) c.slot c.generation x.0
  unrenewed state (End ∷ tasks) c x = unrenewed state tasks c x
  unrenewed state (Perform d ∷ tasks) c x = unrenewed state tasks c x

  commutes : (state : State) (tasks : List (WorkerTask D)) (c : Command) (k : Option Known) → NotRenewed c tasks
      → state_after told promised (put_at state c.slot c.generation k) tasks [] ≡ put_at (state_after told promised state tasks []) c.slot c.generation k
  commutes state [] c k x = refl
  commutes state (TakeUp served ∷ tasks) c k x =
      ap (λ y. state_after told promised y tasks []) (swap state c.slot c.generation served.part.slot served.part.generation k (Some (known_of told promised served)) x.0)
      ∙ commutes (taken_up told promised state served) tasks c k x.1
  commutes state (End ∷ tasks) c k x = commutes state tasks c k x
  commutes state (Perform d ∷ tasks) c k x = commutes state tasks c k x

  Found : State → List Completion → Completion → List (WorkerTask D) → Type 0
  Found state answers a tasks =
      (c : Command) × (unanswered tasks answers ≡ c ∷ unanswered tasks (answers ++ a ∷ []))
      × IsAnswer (state_after told promised state tasks answers) c a
      × (state_after told promised state tasks (answers ++ a ∷ []) ≡ performed (state_after told promised state tasks answers) c a)

  next : (state : State) (answers : List Completion) (a : Completion) (tasks : List (WorkerTask D)) → Answered told promised state (answers ++ a ∷ []) tasks
      → NoneRenewed tasks answers → Found state answers a tasks
  unfolding Found
  next state [] a [] x r = absurd x
  next state [] a (TakeUp served ∷ tasks) x r = next (taken_up told promised state served) [] a tasks x r
  next state [] a (End ∷ tasks) x r = next state [] a tasks x r
  next state [] a (Perform c ∷ tasks) x r =
      let here : state_after told promised state tasks [] c.slot c.generation ≡ state c.slot c.generation = unrenewed state tasks c r.0 in
      let e = entry_of c a in (
        c,
        refl,
        record {
          token = x.0.token;
          slot = x.0.slot;
          same_length = x.0.same_length;
          honest = subst (λ y. MayAnswer y e) (sym here) x.0.honest;
          sound = λ q. x.0.sound (subst (λ y. IsPromised y c) here q);
        },
        commutes state tasks c (known_after (state c.slot c.generation) e) r.0
            ∙ ap (λ y. put_at (state_after told promised state tasks []) c.slot c.generation (known_after y e)) (sym here),
      )
  next state (b ∷ answers) a [] x r = absurd x
  next state (b ∷ answers) a (TakeUp served ∷ tasks) x r = next (taken_up told promised state served) (b ∷ answers) a tasks x r
  next state (b ∷ answers) a (End ∷ tasks) x r = next state (b ∷ answers) a tasks x r
  next state (b ∷ answers) a (Perform d ∷ tasks) x r = next (performed state d b) answers a tasks x.1 r

  pub next_law : NextLaw told promised
  unfolding Found
  next_law answers a tasks x r =
      let f = next nothing answers a tasks x r in record { command = f.0; oldest = f.1; answer = f.2; known = f.3 }

  all-received : (state : State) (received more : List Completion) (tasks : List (WorkerTask D)) → Answered told promised state (received ++ more) tasks
      → unanswered tasks received ≡ [] → more ≡ []
  all-received state [] [] tasks x none = refl
  all-received state [] (m ∷ more) [] x none = absurd x
  all-received state [] (m ∷ more) (TakeUp served ∷ tasks) x none = all-received (taken_up told promised state served) [] (m ∷ more) tasks x none
  all-received state [] (m ∷ more) (End ∷ tasks) x none = all-received state [] (m ∷ more) tasks x none
  all-received state [] (m ∷ more) (Perform c ∷ tasks) x none = absurd (not-nil c (unanswered tasks []) none)
  all-received state (r ∷ received) more [] x none = absurd x
  all-received state (r ∷ received) more (TakeUp served ∷ tasks) x none = all-received (taken_up told promised state served) (r ∷ received) more tasks x none
  all-received state (r ∷ received) more (End ∷ tasks) x none = all-received state (r ∷ received) more tasks x none
  all-received state (r ∷ received) more (Perform c ∷ tasks) x none = all-received (performed state c r) received more tasks x.1 none

  pub all_received_law : AllReceivedLaw told promised
  all_received_law received more tasks x none = all-received nothing received more tasks x none

module _ {D : Type 0} where
  not-command : (c d : Command) (tasks : List (WorkerTask D)) → NotRenewed c tasks → NotRenewed c (tasks ++ Perform d ∷ [])
  not-command c d [] x = tt
  not-command c d (TakeUp served ∷ tasks) x = (x.0, not-command c d tasks x.1)
  not-command c d (End ∷ tasks) x = not-command c d tasks x
  not-command c d (Perform e ∷ tasks) x = not-command c d tasks x

  not-served : (c : Command) (served : ServedPart D) (tasks : List (WorkerTask D)) → NotRenewed c tasks
      → ((c.slot == served.part.slot) && (c.generation == served.part.generation)) ≡ false → NotRenewed c (tasks ++ TakeUp served ∷ [])
  not-served c served [] x ne = (ne, tt)
  not-served c served (TakeUp first ∷ tasks) x ne = (x.0, not-served c served tasks x.1 ne)
  not-served c served (End ∷ tasks) x ne = not-served c served tasks x ne
  not-served c served (Perform e ∷ tasks) x ne = not-served c served tasks x ne

  commands : (tasks : List (WorkerTask D)) (answers : List Completion) (c : Command) → NoneRenewed tasks answers → NoneRenewed (tasks ++ Perform c ∷ []) answers
  commands [] [] c x = (tt, tt)
  commands [] (a ∷ answers) c x = tt
  commands (TakeUp served ∷ tasks) answers c x = commands tasks answers c x
  commands (End ∷ tasks) answers c x = commands tasks answers c x
  commands (Perform d ∷ tasks) [] c x = (not-command d c tasks x.0, commands tasks [] c x.1)
  commands (Perform d ∷ tasks) (a ∷ answers) c x = commands tasks answers c x

  parts : (tasks : List (WorkerTask D)) (answers : List Completion) (served : ServedPart D) → NoneRenewed tasks answers
      → AreApart (unanswered tasks answers) served → NoneRenewed (tasks ++ TakeUp served ∷ []) answers
  parts [] answers served x ne = tt
  parts (TakeUp first ∷ tasks) answers served x ne = parts tasks answers served x ne
  parts (End ∷ tasks) answers served x ne = parts tasks answers served x ne
  parts (Perform d ∷ tasks) [] served x ne = (not-served d served tasks x.0 ne.0, parts tasks [] served x.1 ne.1)
  parts (Perform d ∷ tasks) (a ∷ answers) served x ne = parts tasks answers served x ne

  received : (tasks : List (WorkerTask D)) (answers : List Completion) (a : Completion) → NoneRenewed tasks answers → NoneRenewed tasks (answers ++ a ∷ [])
  received [] answers a x = tt
  received (TakeUp first ∷ tasks) answers a x = received tasks answers a x
  received (End ∷ tasks) answers a x = received tasks answers a x
  received (Perform d ∷ tasks) [] a x = x.1
  received (Perform d ∷ tasks) (b ∷ answers) a x = received tasks answers a x

  pub renews_none : RenewsNone D
  renews_none = record { commands = commands; parts = parts; received = received }
