-- Runs of cores go on, call by call.
use Rattle.std.proofs.Common.{◌≡◌, ◌≢◌, ℕ, zero, suc, ◌<◌, List, [], ◌∷◌, ◌++◌, map, Bool, true, false, if◌then◌else◌, inl, inr, refl, sym, ap, subst, ◌∙◌, arith, Option, Some, None, Result, Ok, Err}
use Rattle.std.specs.Prelude.{IfOk}
use Rattle.std.specs.Result.{result_ok}
use Rattle.std.proofs.lemmas.Bool.{cases_eq}
use Rattle.r6_layout.specs.Shape.{Shape, IsShape}
use Rattle.r6_health.specs.Registers.{starting, without}
use Rattle.r6_world.specs.Tables.{put, put_in}
use Rattle.r6_layout.specs.PlainArray.{Block}
use Rattle.r6_world.specs.PlainArray.{Array, Read, Data}
use Rattle.r6_world.specs.Layouts.{Layout}
use Rattle.r6_world.specs.Geometries.{layout_of}
use Rattle.r6_world.specs.Registers.{Snapshot, RegisterCall, Told, Degraded, DeclareLost, answer_to, register_after}
use Rattle.r6_world.specs.ShardStates as shards
use Rattle.r6_world.specs.ShardStates.{Shard, Command, Transfer, Fetch, Store, Storing, LossOf}
use Rattle.r6_world.specs.Steps as steps
use Rattle.r6_world.specs.Steps.{Event, Completion, Submit, Deliver, Good, Error, Taken, Look, Take_command, Take_call, Take_reply}
use Rattle.r6_world.specs.Worlds as worlds
use Rattle.r6_world.specs.Worlds.{World, Devices, MayCome, happened, next, started, given, performed_on, IsBrought, as_made}
use Rattle.r6_world.specs.Claims.{IsLawfulStart}
use Rattle.r6_world.specs.Laws.{IsOfOutside}
use Rattle.r6_world.specs.Witness.{smallest, small, after_all}
use Rattle.r6_world.proofs.Tables.{put-same, put-other, None-not_Some, Some-inj}
use Rattle.r6_world.proofs.Geometries.{layouts}
use Rattle.r6_world.specs.declared.values.DeviceFault.{DeviceFault}
use Rattle.r6_world.specs.declared.values.Receipt.{Receipt}
use Rattle.r6_world.specs.Values.{completion_of, receipt_of}
use Rattle.r6_core.specs.Shards.{CoreView, Step, world_shard}
use Rattle.r6_core.specs.Effects.{IsMade, Receives}
use Rattle.r6_core.specs.Runs.{Happening, Call, Perform, Tell, Outside, Moment, in_world, moment_of, cores_after, MayHappen, CoresRun, AreMade, IsShard, AreShards, StayShards}
use Rattle.r6_core_runs.specs.Losses.{events_in, events_of, cores_behind, HasRun, AnswersRead, Reads, Writes, IsTold, Tells, FindsLoss, Restores, ReadsAround, RunsThroughLoss, two_shards, both, IsOneMade, AreBothMade, RunsBesideLoss}
use Rattle.r6_core.proofs.Runs.{are_runs}
use Rattle.r6_core.proofs.Unperformed.{unperformed}

-- what a call that is accepted ensures of its answer
pub of_ok : {A E : Type 0} (r : Result A E) (P : A → Type 0) (a : A) → result_ok r ≡ Some a → IfOk r P → P a
of_ok (Ok x) P a e p = subst P (Some-inj x a e) p
of_ok (Err x) P a e p = absurd (None-not_Some a e)

-- and of a completion that is received its step
pub received : {E : Type 0} (completion : Result (List ℕ) DeviceFault) (r : Result Receipt E) (receipt : Receipt) (old new : CoreView) (token : ℕ)
    → result_ok r ≡ Some receipt → IfOk r (λ x. Receives old token completion x new) → Step old (Deliver token (completion_of completion) (receipt_of receipt)) new
received completion (Ok x) receipt old new token e p = subst (λ y. Step old (Deliver token (completion_of completion) (receipt_of y)) new) (Some-inj x receipt e) p.step
received completion (Err x) receipt old new token e p = absurd (None-not_Some receipt e)

unwrapped : {A : Type 0} (b : Bool) (x : A) → (if b then x else x) ≡ x
unwrapped true x = refl
unwrapped false x = refl

-- ---- two runs, one behind the other

pub append-assoc : (a b c : List (ℕ × Event)) → (a ++ b) ++ c ≡ a ++ (b ++ c)
append-assoc [] b c = refl
append-assoc (e ∷ a) b c = ap (λ x. e ∷ x) (append-assoc a b c)

events-append : (a b : List Moment) → events_of (a ++ b) ≡ events_of a ++ events_of b
events-append [] b = refl
events-append (m ∷ a) b = ap (λ x. events_in m.happening ++ x) (events-append a b) ∙ sym (append-assoc (events_in m.happening) (events_of a) (events_of b))

cores-append : (cores : ℕ → CoreView) (a b : List Moment) → cores_behind cores (a ++ b) ≡ cores_behind (cores_behind cores a) b
cores-append cores [] b = refl
cores-append cores (m ∷ a) b = cores-append (cores_after cores m.happening) a b

world-append : (l : Layout) (w : World) (a b : List Moment) → after_all l w (map moment_of (a ++ b)) ≡ after_all l (after_all l w (map moment_of a)) (map moment_of b)
world-append l w [] b = refl
world-append l w (m ∷ a) b = world-append l (next l w (moment_of m)) a b

run-append : (l : Layout) (Ours : ℕ → Type 0) (Comes : RegisterCall → Type 0) (w : World) (cores : ℕ → CoreView) (a b : List Moment) → CoresRun l Ours Comes w cores a
    → CoresRun l Ours Comes (after_all l w (map moment_of a)) (cores_behind cores a) b → CoresRun l Ours Comes w cores (a ++ b)
run-append l Ours Comes w cores [] b r s = s
run-append l Ours Comes w cores (m ∷ a) b r s = (r.0, run-append l Ours Comes (next l w (moment_of m)) (cores_after cores m.happening) a b r.1 s)

-- at its end the world's shards are the cores
shards-behind : (l : Layout) (Ours : ℕ → Type 0) (w : World) (cores : ℕ → CoreView) (moments : List Moment) → StayShards l Ours w cores moments
    → AreShards Ours (after_all l w (map moment_of moments)) (cores_behind cores moments)
shards-behind l Ours w cores [] x = x
shards-behind l Ours w cores (m ∷ moments) x = shards-behind l Ours (next l w (moment_of m)) (cores_after cores m.happening) moments x.1

-- ---- devices

-- the devices with this block on a slot's device of a generation, in a row
abbrev pub with_block : Devices → (slot generation row : ℕ) → Block → Devices
with_block device slot generation row block = put_in device slot generation (put (device slot generation) row block)

-- what devices do that hold the same
same-put : {A : Type 0} (f g : ℕ → A) (key : ℕ) (a b : A) → ((n : ℕ) → f n ≡ g n) → a ≡ b → (n : ℕ) → put f key a n ≡ put g key b n
same-put f g key a b same is n =
    elim (cases_eq n key) [
      | inl e ↦ put-same f key a n e ∙ is ∙ sym (put-same g key b n e)
      | inr ne ↦ put-other f key a n ne ∙ same n ∙ sym (put-other g key b n ne)
    ]

same-block : (one two : Devices) (slot generation row : ℕ) (block : Block) → ((s g k : ℕ) → one s g k ≡ two s g k)
    → (s g k : ℕ) → with_block one slot generation row block s g k ≡ with_block two slot generation row block s g k
same-block one two slot generation row block same s g k =
    elim (cases_eq s slot) [
      | inl e ↦
          ap (λ (f : ℕ → ℕ → Block). f g k) (put-same one slot _ s e)
          ∙ at-generation ∙ ap (λ (f : ℕ → ℕ → Block). f g k) (sym (put-same two slot _ s e))
      | inr ne ↦
          ap (λ (f : ℕ → ℕ → Block). f g k) (put-other one slot _ s ne)
          ∙ same s g k ∙ ap (λ (f : ℕ → ℕ → Block). f g k) (sym (put-other two slot _ s ne))
    ]
  where
    at-generation : put (one slot) generation (put (one slot generation) row block) g k ≡ put (two slot) generation (put (two slot generation) row block) g k
    at-generation = elim (cases_eq g generation) [
      | inl e ↦
          ap (λ (f : ℕ → Block). f k) (put-same (one slot) generation _ g e)
          ∙ same-put (one slot generation) (two slot generation) row block block (same slot generation) refl k
          ∙ ap (λ (f : ℕ → Block). f k) (sym (put-same (two slot) generation _ g e))
      | inr ne ↦
          ap (λ (f : ℕ → Block). f k) (put-other (one slot) generation _ g ne)
          ∙ same slot g k ∙ ap (λ (f : ℕ → Block). f k) (sym (put-other (two slot) generation _ g ne))
    ]

same-given : (c : Command) (transfer : Transfer) (one two : Devices) → ((s g k : ℕ) → one s g k ≡ two s g k) → given one c transfer ≡ given two c transfer
same-given c Fetch one two same = same c.slot c.generation c.row
same-given c (Store b) one two same = refl
same-given c Storing one two same = refl

same-performing : (c : Command) (transfer : Transfer) (one two : Devices) → ((s g k : ℕ) → one s g k ≡ two s g k)
    → (s g k : ℕ) → performed_on one c transfer s g k ≡ performed_on two c transfer s g k
same-performing c Fetch one two same = same
same-performing c (Store b) one two same = same-block one two c.slot c.generation c.row b same
same-performing c Storing one two same = same

-- ---- of cores made at a register with no slot lost

-- one core has gone on, and the others are as they were
pub record Becomes (Ours : ℕ → Type 0) (old : ℕ → CoreView) (n : ℕ) (core : CoreView) (new : ℕ → CoreView) : Type 0 where
  pub own : new n ≡ core
  pub others : (m : ℕ) → Ours m → m ≢ n → new m ≡ old m

module _ (shape : Shape) (limits : IsShape shape) (Ours : ℕ → Type 0) (Comes : RegisterCall → Type 0) (below : (n : ℕ) → Ours n → n < shape.shards)
    (device : Devices) (array : Array) (lawful : IsLawfulStart (layout_of shape) (starting 0) device array) where
  abbrev l : Layout
  l = layout_of shape

  abbrev begins : World
  begins = started l (starting 0) device

  -- a run, the world to which it leads, and what the devices after-it hold
  pub record Leads (now : Devices) (events : List (ℕ × Event)) (cores : ℕ → CoreView) (w : World) : Type 0 where
    first : ℕ → CoreView
    made : AreMade shape Ours (starting 0) first
    moments : List Moment
    run : CoresRun l Ours Comes begins first moments
    events_are : events_of moments ≡ events
    cores_are : (n : ℕ) → Ours n → cores_behind first moments n ≡ cores n
    world_is : after_all l begins (map moment_of moments) ≡ w
    device_is : (slot g row : ℕ) → w.device slot g row ≡ now slot g row

  -- what stands on a part that has answered an error stays there
  abbrev later : World → Happening → World
  later w h = next l w (moment_of (record { happening = h; noise = (happened l w (in_world h)).device }))

  -- one more thing happens
  go_on : (now : Devices) (events : List (ℕ × Event)) (cores : ℕ → CoreView) (w : World) → (x : Leads now events cores w) → (h : Happening) (new : ℕ → CoreView) (after-it : Devices)
      → MayHappen l Ours Comes w (cores_behind x.first x.moments) h
      → ((n : ℕ) → Ours n → cores_after (cores_behind x.first x.moments) h n ≡ new n)
      → ((slot g row : ℕ) → (happened l w (in_world h)).device slot g row ≡ after-it slot g row)
      → Leads after-it (events ++ events_in h) new (later w h)
  go_on now events cores w x h new after-it may becomes holds =
      let m : Moment = record { happening = h; noise = (happened l w (in_world h)).device } in
      let behind = cores_behind x.first x.moments in
      record {
        first = x.first;
        made = x.made;
        moments = x.moments ++ m ∷ [];
        run = run-append l Ours Comes begins x.first x.moments (m ∷ []) x.run
            (subst (λ (y : World). MayHappen l Ours Comes y behind h) (sym x.world_is) may, record {});
        events_are = events-append x.moments (m ∷ []) ∙ ap (λ y. y ++ (events_in h ++ [])) x.events_are ∙ ap (λ y. events ++ y) (none-behind (events_in h));
        cores_are = λ n ours. ap (λ (y : ℕ → CoreView). y n) (cores-append x.first x.moments (m ∷ [])) ∙ becomes n ours;
        world_is = world-append l begins x.moments (m ∷ []) ∙ ap (λ (y : World). next l y (moment_of m)) x.world_is;
        device_is = λ slot g row. unwrapped _ _ ∙ holds slot g row;
      }
    where
      none-behind : (es : List (ℕ × Event)) → es ++ [] ≡ es
      none-behind [] = refl
      none-behind (e ∷ es) = ap (λ y. e ∷ y) (none-behind es)

  -- the cores behind a run, of which one goes on
  put-behind : (behind cores new : ℕ → CoreView) → ((m : ℕ) → Ours m → behind m ≡ cores m) → (n : ℕ) (core : CoreView) → Becomes Ours cores n core new
      → (m : ℕ) → Ours m → put behind n core m ≡ new m
  put-behind behind cores new same n core b m ours =
      elim (cases_eq m n) [
        | inl e ↦ put-same behind n core m e ∙ sym b.own ∙ ap new (sym e)
        | inr ne ↦ put-other behind n core m ne ∙ same m ours ∙ sym (b.others m ours ne)
      ]

  -- a call of a core
  pub calls : (now : Devices) (events : List (ℕ × Event)) (cores : ℕ → CoreView) (w : World) → Leads now events cores w → (n : ℕ) → Ours n → (core : CoreView) → cores n ≡ core
      → (event : Event) (new : CoreView) (news : ℕ → CoreView) → Becomes Ours cores n new news → MayCome w n event → Step core event new
      → Leads now (events ++ (n, event) ∷ []) news (later w (Call n event new))
  calls now events cores w x n ours core is event new news b comes step =
      go_on now events cores w x (Call n event new) news now
      (ours, comes, subst (λ (y : CoreView). Step y event new) (sym (x.cores_are n ours ∙ is)) step)
      (put-behind (cores_behind x.first x.moments) cores news x.cores_are n new b) x.device_is

  -- the world's shard is the core
  shard-is : (now : Devices) (events : List (ℕ × Event)) (cores : ℕ → CoreView) (w : World) → (x : Leads now events cores w) → (n : ℕ) → Ours n → w.shard n ≡ world_shard (cores n)
  shard-is now events cores w x n ours =
      let stays = (are_runs shape Ours Comes below (starting 0) device x.first x.made x.moments x.run).1 in
      ap (λ (y : World). y.shard n) (sym x.world_is)
      ∙ shards-behind l Ours begins x.first x.moments stays n ours
      ∙ ap world_shard (x.cores_are n ours)

  -- a command that is there to be taken was not performed
  fresh : (now : Devices) (events : List (ℕ × Event)) (cores : ℕ → CoreView) (w : World) → (x : Leads now events cores w) → (n : ℕ) → Ours n → (token : ℕ) (c : Command)
      → (world_shard (cores n)).command token ≡ Some c → c.taken ≡ false → w.performed n token ≡ None
  fresh now events cores w x n ours token c there untaken =
      let as_world = (are_runs shape Ours Comes below (starting 0) device x.first x.made x.moments x.run).0 in
      subst (λ (y : World). y.performed n token ≡ None) x.world_is
      (unperformed l Ours Comes (layouts shape limits) (starting 0) device array lawful x.first x.moments x.run as_world n ours token c
      (ap (λ (y : World). (y.shard n).command token) x.world_is ∙ ap (λ (s : Shard). s.command token) (shard-is now events cores w x n ours) ∙ there)
      untaken)

  -- one core goes on, to where another call leads it
  pub put-first : (cores : ℕ → CoreView) (n : ℕ) (middle : CoreView) → Becomes Ours cores n middle (put cores n middle)
  put-first cores n middle = record { own = put-same cores n middle n refl; others = λ m ours ne. put-other cores n middle m ne }

  pub put-then : (cores : ℕ → CoreView) (n : ℕ) (middle new : CoreView) (news : ℕ → CoreView) → Becomes Ours cores n new news → Becomes Ours (put cores n middle) n new news
  put-then cores n middle new news b = record { own = b.own; others = λ m ours ne. b.others m ours ne ∙ sym (put-other cores n middle m ne) }

  -- where a run leads
  abbrev pub Onward : Snapshot → Devices → List (ℕ × Event) → (ℕ → CoreView) → Type 0
  Onward register now events news = (w : World) × (w.register ≡ register) × Leads now events news w

  -- a command is taken, and answered by an error
  pub faults : (now : Devices) (events : List (ℕ × Event)) (cores : ℕ → CoreView) (w : World) → Leads now events cores w → (n : ℕ) → Ours n → (core : CoreView) → cores n ≡ core
      → (completion : Completion) → ((later : World) (token : ℕ) → MayCome later n (Deliver token completion Taken))
      → (t : ℕ) (c : Command) (middle new : CoreView) (news : ℕ → CoreView) → Becomes Ours cores n new news
      → Step core (Take_command t c) middle → Step middle (Deliver t completion Taken) new
      → Onward w.register now (events ++ (n, Take_command t c) ∷ (n, Deliver t completion Taken) ∷ []) news
  faults now events cores w x n ours core is completion may t c middle new news b took delivered =
      let mid = put cores n middle in
      let taken = calls now events cores w x n ours core is (Take_command t c) middle mid (put-first cores n middle) (record {}) took in
      let w1 = later w (Call n (Take_command t c) middle) in
      let done = calls now (events ++ (n, Take_command t c) ∷ []) mid w1 taken n ours middle (put-same cores n middle n refl)
      (Deliver t completion Taken) new news (put-then cores n middle new news b) (may w1 t) delivered in (
        later w1 (Call n (Deliver t completion Taken) new),
        refl,
        subst (λ es. Leads now es news (later w1 (Call n (Deliver t completion Taken) new)))
            (append-assoc events ((n, Take_command t c) ∷ []) ((n, Deliver t completion Taken) ∷ [])) done,
      )

  -- a read is taken, and answered by an error
  pub errs : (now : Devices) (events : List (ℕ × Event)) (cores : ℕ → CoreView) (w : World) → Leads now events cores w → (n : ℕ) → Ours n → (core : CoreView) → cores n ≡ core
      → (completion : Completion) → ((later : World) (token : ℕ) → MayCome later n (Deliver token completion Taken))
      → (slot g row : ℕ) (new : CoreView) (news : ℕ → CoreView) → Becomes Ours cores n new news → (r : AnswersRead slot g row completion core new)
      → Onward w.register now (events ++ (n, Take_command r.token r.took.command) ∷ (n, Deliver r.token completion Taken) ∷ []) news
  errs now events cores w x n ours core is completion may slot g row new news b r =
      faults now events cores w x n ours core is completion may r.token r.took.command r.middle new news b r.took.taken r.delivered

  -- a command is taken and performed, and answered with what it gave
  performs : (now : Devices) (events : List (ℕ × Event)) (cores : ℕ → CoreView) (w : World) → Leads now events cores w → (n : ℕ) → Ours n → (core : CoreView) → cores n ≡ core
      → (t : ℕ) (c : Command) (block : Block) (middle new : CoreView) (news : ℕ → CoreView) → Becomes Ours cores n new news
      → Step core (Take_command t c) middle → Step middle (Deliver t (Good block) Taken) new
      → ((gave : Option Block) → gave ≡ Some (given w.device c c.transfer) → worlds.Brings c.transfer gave block)
      → (after-it : Devices) → ((slot g row : ℕ) → performed_on w.device c c.transfer slot g row ≡ after-it slot g row)
      → Onward w.register after-it (events ++ (n, Take_command t c) ∷ (n, Deliver t (Good block) Taken) ∷ []) news
  performs now events cores w x n ours core is t c block middle new news b took delivered brings after-it holds =
      let mid = put cores n middle in
      let taken = calls now events cores w x n ours core is (Take_command t c) middle mid (put-first cores n middle) (record {}) took in
      let w1 = later w (Call n (Take_command t c) middle) in
      let flies : w1.flight n t ≡ Some c =
      ap (λ (f : ℕ → Option Command). f t) (put-same w.flight n (put (w.flight n) t (Some c)) n refl) ∙ put-same (w.flight n) t (Some c) t refl in
      let here : w1.shard n ≡ world_shard middle = put-same w.shard n (world_shard middle) n refl in
      let out : (w1.shard n).command t ≢ None =
      (λ none. None-not_Some _ (sym none ∙ ap (λ (s : Shard). s.command t) (here ∙ took.1.1) ∙ put-same (world_shard core).command t _ t refl)) in
      let there : (world_shard (cores n)).command t ≡ Some c = ap (λ (y : CoreView). (world_shard y).command t) is ∙ took.1.0.0 in
      let before : w1.performed n t ≡ None = fresh now events cores w x n ours t c there took.1.0.1 in
      let devices : (slot g row : ℕ) → w1.device slot g row ≡ w.device slot g row = (λ slot g row. unwrapped _ _) in
      let done = go_on now (events ++ (n, Take_command t c) ∷ []) mid w1 taken (Perform n t c) mid after-it (ours, (below n ours, flies, out, before)) taken.cores_are
      (λ slot g row. same-performing c c.transfer w1.device w.device devices slot g row ∙ holds slot g row) in
      let w2 = later w1 (Perform n t c) in
      let gave : w2.performed n t ≡ Some (given w.device c c.transfer) =
      ap (λ (f : ℕ → Option Block). f t) (put-same w1.performed n (put (w1.performed n) t (Some (given w1.device c c.transfer))) n refl)
      ∙ put-same (w1.performed n) t (Some (given w1.device c c.transfer)) t refl
      ∙ ap (λ b. Some b) (same-given c c.transfer w1.device w.device devices) in
      let answered = calls after-it ((events ++ (n, Take_command t c) ∷ []) ++ []) mid w2 done n ours middle (put-same cores n middle n refl)
      (Deliver t (Good block) Taken) new news (put-then cores n middle new news b)
      (subst (λ o. IsBrought o (w2.performed n t) block) (sym flies) (brings (w2.performed n t) gave)) delivered in (
        later w2 (Call n (Deliver t (Good block) Taken) new),
        refl,
        subst (λ es. Leads after-it es news (later w2 (Call n (Deliver t (Good block) Taken) new)))
            (append-assoc (events ++ (n, Take_command t c) ∷ []) [] ((n, Deliver t (Good block) Taken) ∷ [])
            ∙ append-assoc events ((n, Take_command t c) ∷ []) ((n, Deliver t (Good block) Taken) ∷ [])) answered,
      )

  -- a read is performed, and answered with what stands on its slot
  pub reads : (now : Devices) (events : List (ℕ × Event)) (cores : ℕ → CoreView) (w : World) → Leads now events cores w → (n : ℕ) → Ours n → (core : CoreView) → cores n ≡ core
      → (slot g row : ℕ) (block : Block) (new : CoreView) (news : ℕ → CoreView) → Becomes Ours cores n new news → now slot g row ≡ block → (r : Reads slot g row block core new)
      → Onward w.register now (events ++ (n, Take_command r.token r.took.command) ∷ (n, Deliver r.token (Good block) Taken) ∷ []) news
  reads now events cores w x n ours core is slot g row block new news b stands r =
      let c = r.took.command in
      let there : w.device c.slot c.generation c.row ≡ block =
      x.device_is c.slot c.generation c.row ∙ ap (λ y. now y c.generation c.row) r.took.of_slot ∙ ap (λ y. now slot y c.row) r.took.of_generation ∙ ap (now slot g) r.took.of_row ∙ stands in
      performs now events cores w x n ours core is r.token c block r.middle new news b r.took.taken r.delivered
      (λ gave e. subst (λ y. worlds.Brings y gave block) (sym r.took.is_read) (e ∙ ap (λ b. Some b) (ap (given w.device c) r.took.is_read ∙ there)))
      now (λ s h k. ap (λ (y : Devices). y s h k) (ap (performed_on w.device c) r.took.is_read) ∙ x.device_is s h k)

  -- a write is performed, and confirmed
  pub writes : (now : Devices) (events : List (ℕ × Event)) (cores : ℕ → CoreView) (w : World) → Leads now events cores w → (n : ℕ) → Ours n → (core : CoreView) → cores n ≡ core
      → (slot g row : ℕ) (block : Block) (new : CoreView) (news : ℕ → CoreView) → Becomes Ours cores n new news → (r : Writes slot g row block core new)
      → Onward w.register (with_block now slot g row block) (events ++ (n, Take_command r.token r.command) ∷ (n, Deliver r.token (Good block) Taken) ∷ []) news
  writes now events cores w x n ours core is slot g row block new news b r =
      let c = r.command in
      performs now events cores w x n ours core is r.token c block r.middle new news b r.taken r.delivered
      (λ gave e. subst (λ y. worlds.Brings y gave block) (sym r.is_write) (λ none. None-not_Some _ (sym none ∙ e)))
      (with_block now slot g row block)
      (λ s h k. ap (λ (y : Devices). y s h k) (ap (performed_on w.device c) r.is_write
      ∙ ap (λ y. with_block w.device y c.generation c.row block) r.of_slot ∙ ap (λ y. with_block w.device slot y c.row block) r.of_generation
      ∙ ap (λ y. with_block w.device slot g y block) r.of_row)
      ∙ same-block w.device now slot g row block x.device_is s h k)

  -- a call is made at the register, and answered
  pub tells : (now : Devices) (events : List (ℕ × Event)) (cores : ℕ → CoreView) (w : World) → Leads now events cores w → (n : ℕ) → Ours n → (core : CoreView) → cores n ≡ core
      → (register next : Snapshot) → w.register ≡ register → (call : shards.Call) (answer : Told) → answer_to l register (as_made n call) ≡ answer
      → register_after l register (as_made n call) answer ≡ next → (new : CoreView) (news : ℕ → CoreView) → Becomes Ours cores n new news → IsTold call answer core new
      → Onward next now (events ++ (n, Take_call call) ∷ (n, steps.Told call answer) ∷ []) news
  tells now events cores w x n ours core is register next seen call answer answers leads new news b d =
      let h = Tell n call answer d.middle new in (
        later w h,
        ap (λ (y : Snapshot). register_after l y (as_made n call) answer) seen ∙ leads,
        go_on now events cores w x h news now (
          ours,
          inl (sym answers ∙ ap (λ (y : Snapshot). answer_to l y (as_made n call)) (sym seen)),
          subst (λ (y : CoreView). Step y (Take_call call) d.middle) (sym (x.cores_are n ours ∙ is)) d.taken,
          d.told,
        ) (put-behind (cores_behind x.first x.moments) cores news x.cores_are n new b) x.device_is,
      )

  -- a call comes at the register from outside
  pub comes : (now : Devices) (events : List (ℕ × Event)) (cores : ℕ → CoreView) (w : World) → Leads now events cores w
      → (register next : Snapshot) → w.register ≡ register → (call : RegisterCall) → Comes call → register_after l register call (answer_to l register call) ≡ next
      → Onward next now (events ++ []) cores
  comes now events cores w x register next seen call may leads = (
    later w (Outside call),
    ap (λ (y : Snapshot). register_after l y call (answer_to l y call)) seen ∙ leads,
    go_on now events cores w x (Outside call) cores now may x.cores_are x.device_is,
  )

  -- at the start
  pub starts : (first : ℕ → CoreView) → AreMade shape Ours (starting 0) first → Leads device [] first begins
  starts first made = record { first = first; made = made; moments = []; run = record {}; events_are = refl; cores_are = λ n ours. refl; world_is = refl; device_is = λ slot g row. refl }

  -- and at the end
  pub ends : (now : Devices) (events : List (ℕ × Event)) (cores : ℕ → CoreView) (w : World) → Leads now events cores w → (register : Snapshot) → w.register ≡ register
      → HasRun shape Ours Comes (starting 0) device array events cores register
  ends now events cores w x register is =
      record {
        limits = limits;
        lawful = lawful;
        first = x.first;
        made = x.made;
        moments = x.moments;
        run = x.run;
        events_are = x.events_are;
        cores_are = x.cores_are;
        register_is = ap (λ (y : World). y.register) x.world_is ∙ is;
      }

-- ---- one core

-- a core that was made for this array with no slot lost
pub made_at : (shape here : Shape) (r : Snapshot) (n : ℕ) (core : CoreView) → shape ≡ here → r ≡ starting 0 → IsMade shape r n core → IsMade here (starting 0) n core
made_at shape here r n core is start made =
    subst (λ (y : Snapshot). IsMade here y n core) start (subst (λ (x : Shape). IsMade x r n core) is made)

pub alone : (old new : CoreView) → Becomes (IsShard smallest) (λ m. old) 0 new (λ m. new)
alone old new = record { own = refl; others = λ m below ne. absurd (omega (arith, below, ne)) }

declared-small : answer_to small (starting 0) (DeclareLost 1 0) ≡ Ok Degraded
declared-small = refl

through_loss : IsShape smallest → (c0 c1 c2 c3 c4 c5 c6 c7 : CoreView) (other parity block : Block) → IsMade smallest (starting 0) 0 c0
    → Step c0 (Submit (Read 0) 0) c1 → AnswersRead 1 0 0 Error c1 c2 → Tells (LossOf 1 0) Degraded c2 c3 → Reads 2 0 0 other c3 c4 → Reads 3 0 0 parity c4 c5
    → Step c5 (Look (without (starting 0) 1)) c6 → Step c6 (Take_reply 0 (Data block)) c7 → RunsThroughLoss other parity block c7
through_loss limits c0 c1 c2 c3 c4 c5 c6 c7 other parity block made submitted f declared second third looked replied = record {
  runs = λ device array lawful on2 on3.
      let Ours = IsShard smallest in
      let Comes = IsOfOutside in
      let below : (n : ℕ) → Ours n → n < smallest.shards = λ n own. own in
      let zeroth : Ours 0 = omega arith in
      let only : (n : ℕ) → Ours n → 0 ≡ n = λ n own. omega (arith, own) in
      let x0 = starts smallest limits Ours Comes below device array lawful (λ m. c0) (λ n own. subst (λ k. IsMade smallest (starting 0) k c0) (only n own) made) in
      let x1 = calls smallest limits Ours Comes below device array lawful device _ (λ m. c0) _ x0 0 zeroth c0 refl (Submit (Read 0) 0) c1 (λ m. c1) (alone c0 c1) (record {}) submitted in
      let x2 = errs smallest limits Ours Comes below device array lawful device _ (λ m. c1) _ x1 0 zeroth c1 refl Error (λ w token. record {}) 1 0 0 c2 (λ m. c2) (alone c1 c2) f in
      let x3 = tells smallest limits Ours Comes below device array lawful device _ (λ m. c2) x2.0 x2.2 0 zeroth c2 refl (starting 0) (without (starting 0) 1) x2.1 (LossOf 1 0) (Ok Degraded) declared-small refl c3 (λ m. c3) (alone c2 c3) declared in
      let x4 = reads smallest limits Ours Comes below device array lawful device _ (λ m. c3) x3.0 x3.2 0 zeroth c3 refl 2 0 0 other c4 (λ m. c4) (alone c3 c4) on2 second in
      let x5 = reads smallest limits Ours Comes below device array lawful device _ (λ m. c4) x4.0 x4.2 0 zeroth c4 refl 3 0 0 parity c5 (λ m. c5) (alone c4 c5) on3 third in
      let register : x5.0.register ≡ without (starting 0) 1 = x5.1 ∙ x4.1 ∙ x3.1 in
      let x6 = calls smallest limits Ours Comes below device array lawful device _ (λ m. c5) x5.0 x5.2 0 zeroth c5 refl (Look (without (starting 0) 1)) c6 (λ m. c6) (alone c5 c6) (sym register) looked in
      let x7 = calls smallest limits Ours Comes below device array lawful device _ (λ m. c6) _ x6 0 zeroth c6 refl (Take_reply 0 (Data block)) c7 (λ m. c7) (alone c6 c7) (record {}) replied in (
        (f.token, f.took.command),
        (second.token, second.took.command),
        (third.token, third.took.command),
        ends smallest limits Ours Comes below device array lawful device _ (λ m. c7) _ x7 (without (starting 0) 1) register,
      );
}

pub by_one : (a b c : CoreView) (other parity block : Block) (start register : Snapshot) → IsOneMade start a → register ≡ without (starting 0) 1
    → FindsLoss a b → Restores 2 3 0 register other parity block b c → RunsThroughLoss other parity block c
by_one a b c other parity block start register made is found at =
    through_loss made.limits a found.asking found.failing b at.half at.whole at.seeing c other parity block made.here found.asked found.failed found.declared at.first at.second
    (subst (λ (r : Snapshot). Step at.whole (Look r) at.seeing) is at.looked) at.replied

-- ---- two cores

pub first_goes : (a a' b : CoreView) → Becomes (IsShard two_shards) (both a b) 0 a' (both a' b)
first_goes a a' b = record { own = refl; others = rest }
  where
    rest : (m : ℕ) → m < 2 → m ≢ 0 → both a' b m ≡ both a b m
    rest zero below ne = absurd (ne refl)
    rest (suc m) below ne = refl

pub second_goes : (a b b' : CoreView) → Becomes (IsShard two_shards) (both a b) 1 b' (both a b')
second_goes a b b' = record { own = refl; others = rest }
  where
    rest : (m : ℕ) → m < 2 → m ≢ 1 → both a b' m ≡ both a b m
    rest zero below ne = refl
    rest (suc m) below ne = absurd (omega (arith, below, ne))

declared-two : answer_to (layout_of two_shards) (starting 0) (DeclareLost 1 0) ≡ Ok Degraded
declared-two = refl

pub made-both : (a b : CoreView) → IsMade two_shards (starting 0) 0 a → IsMade two_shards (starting 0) 1 b → AreMade two_shards (IsShard two_shards) (starting 0) (both a b)
made-both a b first second zero below = first
made-both a b first second (suc m) below =
    let one : suc m ≡ 1 = omega (arith, below) in
    subst (λ k. IsMade two_shards (starting 0) k b) (sym one) second

beside_loss : IsShape two_shards → (a0 a1 a2 a3 b0 b1 b2 b3 b4 b5 b6 : CoreView) (other parity block : Block)
    → IsMade two_shards (starting 0) 0 a0 → IsMade two_shards (starting 0) 1 b0
    → Step a0 (Submit (Read 0) 0) a1 → AnswersRead 1 0 0 Error a1 a2 → Tells (LossOf 1 0) Degraded a2 a3
    → Step b0 (Look (without (starting 0) 1)) b1 → Step b1 (Submit (Read 3) 0) b2 → Reads 0 0 1 other b2 b3 → Reads 2 0 1 parity b3 b4
    → Step b4 (Look (without (starting 0) 1)) b5 → Step b5 (Take_reply 0 (Data block)) b6 → RunsBesideLoss other parity block a3 b6
beside_loss limits a0 a1 a2 a3 b0 b1 b2 b3 b4 b5 b6 other parity block first second submitted f declared saw asked here there looked replied = record {
  runs = λ device array lawful on0 on2.
      let Ours = IsShard two_shards in
      let Comes = IsOfOutside in
      let below : (n : ℕ) → n < 2 → n < two_shards.shards = λ n lt. lt in
      let zeroth : 0 < 2 = omega arith in
      let one : 1 < 2 = omega arith in
      let seen = without (starting 0) 1 in
      let x0 = starts two_shards limits Ours Comes below device array lawful (both a0 b0) (made-both a0 b0 first second) in
      let x1 = calls two_shards limits Ours Comes below device array lawful device _ (both a0 b0) _ x0 0 zeroth a0 refl (Submit (Read 0) 0) a1 (both a1 b0) (first_goes a0 a1 b0) (record {}) submitted in
      let x2 = errs two_shards limits Ours Comes below device array lawful device _ (both a1 b0) _ x1 0 zeroth a1 refl Error (λ w token. record {}) 1 0 0 a2 (both a2 b0) (first_goes a1 a2 b0) f in
      let x3 = tells two_shards limits Ours Comes below device array lawful device _ (both a2 b0) x2.0 x2.2 0 zeroth a2 refl (starting 0) (without (starting 0) 1) x2.1 (LossOf 1 0) (Ok Degraded) declared-two refl a3 (both a3 b0) (first_goes a2 a3 b0) declared in
      let x4 = calls two_shards limits Ours Comes below device array lawful device _ (both a3 b0) x3.0 x3.2 1 one b0 refl (Look seen) b1 (both a3 b1) (second_goes a3 b0 b1) (sym x3.1) saw in
      let x5 = calls two_shards limits Ours Comes below device array lawful device _ (both a3 b1) _ x4 1 one b1 refl (Submit (Read 3) 0) b2 (both a3 b2) (second_goes a3 b1 b2) (record {}) asked in
      let x6 = reads two_shards limits Ours Comes below device array lawful device _ (both a3 b2) _ x5 1 one b2 refl 0 0 1 other b3 (both a3 b3) (second_goes a3 b2 b3) on0 here in
      let x7 = reads two_shards limits Ours Comes below device array lawful device _ (both a3 b3) x6.0 x6.2 1 one b3 refl 2 0 1 parity b4 (both a3 b4) (second_goes a3 b3 b4) on2 there in
      let register : x7.0.register ≡ seen = x7.1 ∙ x6.1 ∙ x3.1 in
      let x8 = calls two_shards limits Ours Comes below device array lawful device _ (both a3 b4) x7.0 x7.2 1 one b4 refl (Look seen) b5 (both a3 b5) (second_goes a3 b4 b5) (sym register) looked in
      let x9 = calls two_shards limits Ours Comes below device array lawful device _ (both a3 b5) _ x8 1 one b5 refl (Take_reply 0 (Data block)) b6 (both a3 b6) (second_goes a3 b5 b6) (record {}) replied in (
        (f.token, f.took.command),
        (here.token, here.took.command),
        (there.token, there.took.command),
        ends two_shards limits Ours Comes below device array lawful device _ (both a3 b6) _ x9 seen register,
      );
}

pub by_both : (a b c d : CoreView) (other parity block : Block) (start register : Snapshot)
    → AreBothMade start a c → register ≡ without (starting 0) 1 → FindsLoss a b → ReadsAround register other parity block c d → RunsBesideLoss other parity block b d
by_both a b c d other parity block start register made is found around =
    let at = around.restored in
    beside_loss made.limits a found.asking found.failing b c around.looking around.asking at.half at.whole at.seeing d other parity block made.here made.there
    found.asked found.failed found.declared (subst (λ (r : Snapshot). Step c (Look r) around.looking) is around.saw) around.asked at.first at.second
    (subst (λ (r : Snapshot). Step at.whole (Look r) at.seeing) is at.looked) at.replied
