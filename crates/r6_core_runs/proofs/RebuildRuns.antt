-- A run of cores that rebuild goes on, row by row.
use Rattle.std.proofs.Common.{◌≡◌, ℕ, ◌<◌, List, [], ◌∷◌, ◌++◌, refl, sym, ap, ◌∙◌, subst, arith, Ok}
use Rattle.r6_layout.specs.Shape.{Shape, IsShape}
use Rattle.r6_health.specs.Registers.{starting, after}
use Rattle.r6_world.specs.Tables.{put}
use Rattle.r6_layout.specs.PlainArray.{Block}
use Rattle.r6_world.specs.PlainArray.{Array, Read, Data}
use Rattle.r6_world.specs.Layouts.{Layout}
use Rattle.r6_world.specs.Geometries.{layout_of}
use Rattle.r6_world.specs.Registers.{Snapshot, RegisterCall, RegisterAnswer, Told, Fail, Attach, ReportRebuilt, More, Complete, answer_to, register_after}
use Rattle.r6_world.specs.Tasks.{Rebuild}
use Rattle.r6_world.specs.ShardStates as shards
use Rattle.r6_world.specs.ShardStates.{Command, RebuildOf}
use Rattle.r6_world.specs.Steps as steps
use Rattle.r6_world.specs.Steps.{Event, Submit, Deliver, Good, Taken, Look, Turn_started, Take_command, Take_call, Take_reply}
use Rattle.r6_world.specs.Worlds.{World, Devices, MayCome, as_made, started}
use Rattle.r6_world.specs.Claims.{IsLawfulStart}
use Rattle.r6_world.specs.Laws.{IsOfOutside}
use Rattle.r6_world.proofs.Tables.{put-same}
use Rattle.r6_core_runs.specs.declared.rebuilds.LostRow.{LostRow}
use Rattle.r6_core.specs.Shards.{CoreView, Step}
use Rattle.r6_core.specs.Effects.{IsMade}
use Rattle.r6_core.specs.Runs.{AreMade, IsShard}
use Rattle.r6_core_runs.specs.Losses.{of_core, HasRun, Reads, Writes, IsTold, two_shards, both, AreBothMade}
use Rattle.r6_core_runs.specs.Rebuilds.{RebuildsRow, RebuildsAndReads, Turned, rebuild_events, with_lost, with_new, half_rebuilt, rebuilt, RunsThroughRebuild}
use Rattle.r6_core_runs.proofs.LossRuns.{append-assoc, with_block, Becomes, Leads, Onward, calls, reads, writes, tells, comes, put-first, put-then, starts, ends, first_goes, second_goes, made-both}

abbrev turned_by : {one another row : ℕ} {blocks : LostRow} {answer : RegisterAnswer} {old new : CoreView} → RebuildsRow one another row blocks answer old new → Turned
turned_by r =
    record {
      slot = r.turned.slot;
      generation = r.turned.generation;
      first = (r.first.token, r.first.took.command);
      second = (r.second.token, r.second.took.command);
      write = (r.write.token, r.write.command);
    }

module _ (shape : Shape) (limits : IsShape shape) (Ours : ℕ → Type 0) (Comes : RegisterCall → Type 0) (below : (n : ℕ) → Ours n → n < shape.shards)
    (device : Devices) (array : Array) (lawful : IsLawfulStart (layout_of shape) (starting 0) device array) where
  abbrev l : Layout
  l = layout_of shape

  -- where a run leads, whatever the world is there
  abbrev pub Goes : Snapshot → Devices → List (ℕ × Event) → (ℕ → CoreView) → Type 0
  Goes = Onward shape limits Ours Comes below device array lawful

  pub begun : (first : ℕ → CoreView) → AreMade shape Ours (starting 0) first → Goes (starting 0) device [] first
  begun first made = (started l (starting 0) device, refl, starts shape limits Ours Comes below device array lawful first made)

  regroup : (register : Snapshot) (now : Devices) (events a b : List (ℕ × Event)) (news : ℕ → CoreView) → Goes register now ((events ++ a) ++ b) news → Goes register now (events ++ (a ++ b)) news
  regroup register now events a b news x = (x.0, x.1, subst (λ es. Leads shape limits Ours Comes below device array lawful now es news x.0) (append-assoc events a b) x.2)

  -- a call of a core goes on
  pub called : (register : Snapshot) (now : Devices) (events : List (ℕ × Event)) (cores : ℕ → CoreView) → Goes register now events cores → (n : ℕ) → Ours n → (core : CoreView) → cores n ≡ core
      → (event : Event) (new : CoreView) (news : ℕ → CoreView) → Becomes Ours cores n new news → ((w : World) → w.register ≡ register → MayCome w n event) → Step core event new
      → Goes register now (events ++ (n, event) ∷ []) news
  called register now events cores x n ours core is event new news b may step = (
    _,
    x.1,
    calls shape limits Ours Comes below device array lawful now events cores x.0 x.2 n ours core is event new news b (may x.0 x.1) step,
  )

  pub looked : (register : Snapshot) (now : Devices) (events : List (ℕ × Event)) (cores : ℕ → CoreView) → Goes register now events cores → (n : ℕ) → Ours n → (core : CoreView) → cores n ≡ core
      → (new : CoreView) (news : ℕ → CoreView) → Becomes Ours cores n new news → Step core (Look register) new
      → Goes register now (events ++ (n, Look register) ∷ []) news
  looked register now events cores x n ours core is new news b step =
      called register now events cores x n ours core is (Look register) new news b (λ w seen. sym seen) step

  pub came : (register next : Snapshot) (now : Devices) (events : List (ℕ × Event)) (cores : ℕ → CoreView) → Goes register now events cores → (call : RegisterCall) → Comes call
      → register_after l register call (answer_to l register call) ≡ next → Goes next now (events ++ []) cores
  came register next now events cores x call may leads =
      comes shape limits Ours Comes below device array lawful now events cores x.0 x.2 register next x.1 call may leads

  pub answered : (register : Snapshot) (now : Devices) (events : List (ℕ × Event)) (cores : ℕ → CoreView) → Goes register now events cores → (n : ℕ) → Ours n → (core : CoreView) → cores n ≡ core
      → (slot g row : ℕ) (block : Block) (new : CoreView) (news : ℕ → CoreView) → Becomes Ours cores n new news → now slot g row ≡ block → (r : Reads slot g row block core new)
      → Goes register now (events ++ (n, Take_command r.token r.took.command) ∷ (n, Deliver r.token (Good block) Taken) ∷ []) news
  answered register now events cores x n ours core is slot g row block new news b stands r =
      let y = reads shape limits Ours Comes below device array lawful now events cores x.0 x.2 n ours core is slot g row block new news b stands r in
      (y.0, y.1 ∙ x.1, y.2)

  pub confirmed : (register : Snapshot) (now : Devices) (events : List (ℕ × Event)) (cores : ℕ → CoreView) → Goes register now events cores → (n : ℕ) → Ours n → (core : CoreView) → cores n ≡ core
      → (slot g row : ℕ) (block : Block) (new : CoreView) (news : ℕ → CoreView) → Becomes Ours cores n new news → (r : Writes slot g row block core new)
      → Goes register (with_block now slot g row block) (events ++ (n, Take_command r.token r.command) ∷ (n, Deliver r.token (Good block) Taken) ∷ []) news
  confirmed register now events cores x n ours core is slot g row block new news b r =
      let y = writes shape limits Ours Comes below device array lawful now events cores x.0 x.2 n ours core is slot g row block new news b r in
      (y.0, y.1 ∙ x.1, y.2)

  pub told : (register next : Snapshot) (now : Devices) (events : List (ℕ × Event)) (cores : ℕ → CoreView) → Goes register now events cores → (n : ℕ) → Ours n → (core : CoreView) → cores n ≡ core
      → (call : shards.Call) (answer : Told) → answer_to l register (as_made n call) ≡ answer → register_after l register (as_made n call) answer ≡ next
      → (new : CoreView) (news : ℕ → CoreView) → Becomes Ours cores n new news → IsTold call answer core new
      → Goes next now (events ++ (n, Take_call call) ∷ (n, steps.Told call answer) ∷ []) news
  told register next now events cores x n ours core is call answer answers leads new news b d =
      tells shape limits Ours Comes below device array lawful now events cores x.0 x.2 n ours core is register next x.1 call answer answers leads new news b d

  -- a core rebuilds its row
  rebuilds : (register next : Snapshot) (now : Devices) (events : List (ℕ × Event)) (cores : ℕ → CoreView) → Goes register now events cores → (n : ℕ) → Ours n → (core : CoreView) → cores n ≡ core
      → (one another row : ℕ) (blocks : LostRow) (answer : RegisterAnswer) → answer_to l register (as_made n (RebuildOf 1 1)) ≡ Ok answer
      → register_after l register (as_made n (RebuildOf 1 1)) (Ok answer) ≡ next
      → (new : CoreView) (news : ℕ → CoreView) → Becomes Ours cores n new news → now one 0 row ≡ blocks.other → now another 0 row ≡ blocks.parity
      → (r : RebuildsRow one another row blocks answer core new)
      → Goes next (with_block now 1 1 row blocks.lost) (events ++ of_core n (rebuild_events (turned_by r) blocks answer)) news
  rebuilds register next now events cores x n ours core is one another row blocks answer answers leads new news b on_one on_other r =
      let turn = Turn_started (Rebuild r.turned.slot r.turned.generation) in
      let c1 = put cores n r.held in
      let c2 = put c1 n r.half in
      let c3 = put c2 n r.whole in
      let c4 = put c3 n r.written in
      let after-it = with_block now 1 1 row blocks.lost in
      let t1 = (n, turn) ∷ [] in
      let t2 = (n, Take_command r.first.token r.first.took.command) ∷ (n, Deliver r.first.token (Good blocks.other) Taken) ∷ [] in
      let t3 = (n, Take_command r.second.token r.second.took.command) ∷ (n, Deliver r.second.token (Good blocks.parity) Taken) ∷ [] in
      let t4 = (n, Take_command r.write.token r.write.command) ∷ (n, Deliver r.write.token (Good blocks.lost) Taken) ∷ [] in
      let t5 = (n, Take_call (RebuildOf 1 1)) ∷ (n, steps.Told (RebuildOf 1 1) (Ok answer)) ∷ [] in
      let x1 : Goes register now (events ++ t1) c1 = called register now events cores x n ours core is turn r.held c1 (firstly cores n r.held) (λ w seen. record {}) r.turned.started in
      let x2 : Goes register now (events ++ (t1 ++ t2)) c2 = regroup register now events t1 t2 c2
      (answered register now (events ++ t1) c1 x1 n ours r.held (put-same cores n r.held n refl) one 0 row blocks.other r.half c2 (firstly c1 n r.half) on_one r.first) in
      let x3 : Goes register now (events ++ (t1 ++ t2 ++ t3)) c3 = regroup register now events (t1 ++ t2) t3 c3
      (answered register now (events ++ (t1 ++ t2)) c2 x2 n ours r.half (put-same c1 n r.half n refl) another 0 row blocks.parity r.whole c3 (firstly c2 n r.whole) on_other r.second) in
      let x4 : Goes register after-it (events ++ (t1 ++ t2 ++ t3 ++ t4)) c4 = regroup register after-it events (t1 ++ t2 ++ t3) t4 c4
      (confirmed register now (events ++ (t1 ++ t2 ++ t3)) c3 x3 n ours r.whole (put-same c2 n r.whole n refl) 1 1 row blocks.lost r.written c4 (firstly c3 n r.written) r.write) in
      let behind = lastly c3 n r.written new news (lastly c2 n r.whole new news (lastly c1 n r.half new news (lastly cores n r.held new news b))) in
      regroup next after-it events (t1 ++ t2 ++ t3 ++ t4) t5 news
      (told register next after-it (events ++ (t1 ++ t2 ++ t3 ++ t4)) c4 x4 n ours r.written (put-same c3 n r.written n refl) (RebuildOf 1 1) (Ok answer) answers leads new news behind r.report)
    where
      firstly : (cores : ℕ → CoreView) (n : ℕ) (middle : CoreView) → Becomes Ours cores n middle (put cores n middle)
      firstly = put-first shape limits Ours Comes below device array lawful

      lastly : (cores : ℕ → CoreView) (n : ℕ) (middle new : CoreView) (news : ℕ → CoreView) → Becomes Ours cores n new news → Becomes Ours (put cores n middle) n new news
      lastly = put-then shape limits Ours Comes below device array lawful

-- the registers that a run shows: with the slot lost, with a new device, with one report, and with both
record Shows (lost attached half whole : Snapshot) : Type 0 where
  lost_is : register_after (layout_of two_shards) (starting 0) (Fail 1) (answer_to (layout_of two_shards) (starting 0) (Fail 1)) ≡ lost
  attached_is : register_after (layout_of two_shards) lost (Attach 1) (answer_to (layout_of two_shards) lost (Attach 1)) ≡ attached
  more : answer_to (layout_of two_shards) attached (ReportRebuilt 0 1 1) ≡ Ok More
  half_is : register_after (layout_of two_shards) attached (ReportRebuilt 0 1 1) (Ok More) ≡ half
  complete : answer_to (layout_of two_shards) half (ReportRebuilt 1 1 1) ≡ Ok Complete
  whole_is : register_after (layout_of two_shards) half (ReportRebuilt 1 1 1) (Ok Complete) ≡ whole

shown : Shows with_lost with_new half_rebuilt rebuilt
shown = record { lost_is = refl; attached_is = refl; more = refl; half_is = refl; complete = refl; whole_is = refl }

-- the calls of the run, in order
abbrev run_events : (lost attached whole : Snapshot) → Turned → Turned → ℕ × Command → (here there : LostRow) → Block → List (ℕ × Event)
run_events lost attached whole one two read here there block =
    of_core 0 (Look lost ∷ []) ++ of_core 1 (Look lost ∷ [])
    ++ of_core 0 (Look attached ∷ []) ++ of_core 1 (Look attached ∷ [])
    ++ of_core 0 (rebuild_events one here More) ++ of_core 1 (rebuild_events two there Complete)
    ++ of_core 0 (Look whole ∷ []) ++ of_core 1 (Look whole ∷ [])
    ++ of_core 0 (Submit (Read 0) 0
    ∷ Take_command read.0 read.1 ∷ Deliver read.0 (Good here.lost) Taken
    ∷ Look whole
    ∷ Take_reply 0 (Data block) ∷ [])

module _ (lost attached half whole : Snapshot) (shows : Shows lost attached half whole) where
  through : IsShape two_shards → (a0 a1 a2 a3 a4 a5 a6 a7 a8 b0 b1 b2 b3 b4 : CoreView) (here there : LostRow) (block : Block)
      → IsMade two_shards (starting 0) 0 a0 → IsMade two_shards (starting 0) 1 b0
      → Step a0 (Look lost) a1 → Step b0 (Look lost) b1 → Step a1 (Look attached) a2 → Step b1 (Look attached) b2
      → (one : RebuildsRow 2 3 0 here More a2 a3) → (two : RebuildsRow 0 2 1 there Complete b2 b3) → Step a3 (Look whole) a4 → Step b3 (Look whole) b4
      → Step a4 (Submit (Read 0) 0) a5 → (read : Reads 1 1 0 here.lost a5 a6) → Step a6 (Look whole) a7 → Step a7 (Take_reply 0 (Data block)) a8
      → (device : Devices) (array : Array) → IsLawfulStart (layout_of two_shards) (starting 0) device array
      → device 2 0 0 ≡ here.other → device 3 0 0 ≡ here.parity → device 0 0 1 ≡ there.other → device 2 0 1 ≡ there.parity
      → HasRun two_shards (IsShard two_shards) IsOfOutside (starting 0) device array
      (run_events lost attached whole (turned_by one) (turned_by two) (read.token, read.took.command) here there block) (both a8 b4) whole
  through limits a0 a1 a2 a3 a4 a5 a6 a7 a8 b0 b1 b2 b3 b4 here there block first second a-lost b-lost a-new b-new one two a-rebuilt b-rebuilt asked read seen replied
      device array lawful on2 on3 on0 on2' =
      let Ours = IsShard two_shards in
      let Comes = IsOfOutside in
      let below : (n : ℕ) → n < 2 → n < two_shards.shards = λ n lt. lt in
      let zeroth : 0 < 2 = omega arith in
      let last : 1 < 2 = omega arith in
      let x0 = begun two_shards limits Ours Comes below device array lawful (both a0 b0) (made-both a0 b0 first second) in
      let y0 = came two_shards limits Ours Comes below device array lawful (starting 0) lost device _ (both a0 b0) x0 (Fail 1) (record {}) shows.lost_is in
      let x1 = looked two_shards limits Ours Comes below device array lawful lost device _ (both a0 b0) y0 0 zeroth a0 refl a1 (both a1 b0) (first_goes a0 a1 b0) a-lost in
      let x2 = looked two_shards limits Ours Comes below device array lawful lost device _ (both a1 b0) x1 1 last b0 refl b1 (both a1 b1) (second_goes a1 b0 b1) b-lost in
      let y2 = came two_shards limits Ours Comes below device array lawful lost attached device _ (both a1 b1) x2 (Attach 1) (record {}) shows.attached_is in
      let x3 = looked two_shards limits Ours Comes below device array lawful attached device _ (both a1 b1) y2 0 zeroth a1 refl a2 (both a2 b1) (first_goes a1 a2 b1) a-new in
      let x4 = looked two_shards limits Ours Comes below device array lawful attached device _ (both a2 b1) x3 1 last b1 refl b2 (both a2 b2) (second_goes a2 b1 b2) b-new in
      let x5 = rebuilds two_shards limits Ours Comes below device array lawful attached half device _ (both a2 b2) x4 0 zeroth a2 refl 2 3 0 here More shows.more shows.half_is
      a3 (both a3 b2) (first_goes a2 a3 b2) on2 on3 one in
      let first_row = with_block device 1 1 0 here.lost in
      let x6 = rebuilds two_shards limits Ours Comes below device array lawful half whole first_row _ (both a3 b2) x5 1 last b2 refl 0 2 1 there Complete shows.complete shows.whole_is
      b3 (both a3 b3) (second_goes a3 b2 b3) on0 on2' two in
      let now = with_block first_row 1 1 1 there.lost in
      let x7 = looked two_shards limits Ours Comes below device array lawful whole now _ (both a3 b3) x6 0 zeroth a3 refl a4 (both a4 b3) (first_goes a3 a4 b3) a-rebuilt in
      let x8 = looked two_shards limits Ours Comes below device array lawful whole now _ (both a4 b3) x7 1 last b3 refl b4 (both a4 b4) (second_goes a4 b3 b4) b-rebuilt in
      let x9 = called two_shards limits Ours Comes below device array lawful whole now _ (both a4 b4) x8 0 zeroth a4 refl (Submit (Read 0) 0) a5 (both a5 b4) (first_goes a4 a5 b4) (λ w seen. record {}) asked in
      let x10 = answered two_shards limits Ours Comes below device array lawful whole now _ (both a5 b4) x9 0 zeroth a5 refl 1 1 0 here.lost a6 (both a6 b4) (first_goes a5 a6 b4) refl read in
      let x11 = looked two_shards limits Ours Comes below device array lawful whole now _ (both a6 b4) x10 0 zeroth a6 refl a7 (both a7 b4) (first_goes a6 a7 b4) seen in
      let x12 = called two_shards limits Ours Comes below device array lawful whole now _ (both a7 b4) x11 0 zeroth a7 refl (Take_reply 0 (Data block)) a8 (both a8 b4) (first_goes a7 a8 b4) (λ w seen. record {}) replied in
      ends two_shards limits Ours Comes below device array lawful now _ (both a8 b4) x12.0 x12.2 whole x12.1

pub through_rebuild : IsShape two_shards → (a0 a1 a2 a3 a4 a5 a6 a7 a8 b0 b1 b2 b3 b4 : CoreView) (here there : LostRow) (block : Block)
    → IsMade two_shards (starting 0) 0 a0 → IsMade two_shards (starting 0) 1 b0
    → Step a0 (Look with_lost) a1 → Step b0 (Look with_lost) b1 → Step a1 (Look with_new) a2 → Step b1 (Look with_new) b2
    → RebuildsRow 2 3 0 here More a2 a3 → RebuildsRow 0 2 1 there Complete b2 b3 → Step a3 (Look rebuilt) a4 → Step b3 (Look rebuilt) b4
    → Step a4 (Submit (Read 0) 0) a5 → Reads 1 1 0 here.lost a5 a6 → Step a6 (Look rebuilt) a7 → Step a7 (Take_reply 0 (Data block)) a8
    → RunsThroughRebuild here there block a8 b4
through_rebuild limits a0 a1 a2 a3 a4 a5 a6 a7 a8 b0 b1 b2 b3 b4 here there block first second a-lost b-lost a-new b-new one two a-rebuilt b-rebuilt asked read seen replied =
    record {
      runs = λ device array lawful on2 on3 on0 on2'. (
        turned_by one,
        turned_by two,
        (read.token, read.took.command),
        through with_lost with_new half_rebuilt rebuilt shown limits a0 a1 a2 a3 a4 a5 a6 a7 a8 b0 b1 b2 b3 b4 here there block first second a-lost b-lost a-new b-new one two
            a-rebuilt b-rebuilt asked read seen replied device array lawful on2 on3 on0 on2',
      );
    }

-- what the functions of the course ensure, at the registers that they have
pub by_parts : (a0 a3 b0 b2 : CoreView) (here there : LostRow) (block : Block) (start : Snapshot) → AreBothMade start a0 b0
    → RebuildsAndReads start here there block a0 b0 a3 b2 → RunsThroughRebuild here there block a3 b2
by_parts a0 a3 b0 b2 here there block start made parts =
    let replaced = parts.replaced in
    let rebuilds = parts.rebuilds in
    let back = parts.back in
    let a1 = parts.here in
    let b1 = parts.there in
    let a2 = parts.asked in
    let lost : replaced.lost ≡ with_lost = replaced.lost_is ∙ ap (λ r. after 2 r (Fail 1)) made.register_is in
    let new : parts.attached ≡ with_new = replaced.attached_is ∙ ap (λ r. after 2 r (Attach 1)) lost in
    let half : rebuilds.half ≡ half_rebuilt = rebuilds.half_is ∙ ap (λ r. after 2 r (ReportRebuilt 0 1 1)) new in
    let last : parts.whole ≡ rebuilt = rebuilds.rebuilt_is ∙ ap (λ r. after 2 r (ReportRebuilt 1 1 1)) half in
    through_rebuild made.limits a0 replaced.here a1 rebuilds.here a2 back.asking back.reading back.seeing a3 b0 replaced.there b1 rebuilds.there b2 here there block made.here made.there
    (shows lost a0 replaced.here replaced.looked.here) (shows lost b0 replaced.there replaced.looked.there)
    (shows new replaced.here a1 replaced.looked_again.here) (shows new replaced.there b1 replaced.looked_again.there)
    rebuilds.one_rebuilt rebuilds.two_rebuilt
    (shows last rebuilds.here a2 rebuilds.looked.here) (shows last rebuilds.there b2 rebuilds.looked.there)
    back.asked back.read (shows last back.reading back.seeing back.looked) back.replied
  where
    shows : {r shown : Snapshot} → r ≡ shown → (old new : CoreView) → Step old (Look r) new → Step old (Look shown) new
    shows e old new step = subst (λ (r : Snapshot). Step old (Look r) new) e step
