-- All writes are taken, and one is performed.
use Rattle.std.proofs.Common.{◌≡◌, ◌≢◌, ◌==◌, ◌⊎◌, ℕ, zero, suc, ◌<◌, ◌≤◌, List, [], ◌∷◌, ◌++◌, true, false, if◌then◌else◌, inl, inr, refl, sym, ap, ◌∙◌, subst, arith, ne_eqb, Some}
use Rattle.std.proofs.lemmas.Bool.{cases_eq, false≢true}
use Rattle.r6_kernels.specs.Blocks.{IsBlock}
use Rattle.r6_layout.specs.PlainArray.{Block}
use Rattle.r6_stripe.specs.Holds.Writing.{Unwritten, Sent}
use Rattle.r6_stripe.specs.Holds.{Writing, cell_at, IsToWrite, IsIndexOf}
use Rattle.r6_stripe.specs.Holds.Kind.{Write as Writes}
use Rattle.r6_stripe.specs.Holds.Standing.{InSync as Sync}
use Rattle.r6_world.specs.PlainArray.{Array, Plain}
use Rattle.r6_world.specs.Layouts.{IsArray}
use Rattle.r6_world.specs.Registers.{InSync}
use Rattle.r6_world.specs.Tasks.{Hold}
use Rattle.r6_world.specs.ShardStates.{Shard, Command, Store, Storing}
use Rattle.r6_world.specs.Steps.{Take_command, Step}
use Rattle.r6_world.specs.Worlds.{World, Happening, Core, Perform, Moment, Run, happened, next, started}
use Rattle.r6_world.specs.Laws.{IsOfOutside, at_start}
use Rattle.r6_world.specs.Witness.{small, after_all}
use Rattle.r6_world.proofs.Tables.{Some-inj, None-not_Some, not_both}
use Rattle.r6_world.proofs.Cells.{not-out-within}
use Rattle.r6_world.proofs.Rows.SeenRows.{in_sync_is_not_out}
use Rattle.r6_world.proofs.Witness.Pieces.{Reaches, Stands, store, handed_out, run-append, after-append}
use Rattle.r6_world.proofs.Witness.SmallRows.{p, q}
use Rattle.r6_world.proofs.Witness.SmallShards.{register_with, but_one-same, storing_not_fetch}
use Rattle.r6_world.proofs.Witness.Written.{all_sent, writes_out, when_writing}
use Rattle.r6_world.proofs.Witness.Course.{device, starts, stands}
use Rattle.r6_crash.specs.Crashes.{IsServed, Remains, plain_after_all}
use Rattle.r6_crash.specs.Replays.{HasNew, IsPutOut, ArePutOut}
use Rattle.r6_crash.specs.Journals.{IsPut, IsTaken, IsOut, IsFix, SentIsPut, BatchesAreWhole, IsJournaled, IsReplayed}
use Rattle.r6_crash.specs.Witness.{one_lost, all_logged, IsPartDone, MidwayFrom, JournalWitness}
use Rattle.r6_crash.proofs.Holes.{is_writing, sent-hold, served-writing}

abbrev moment_of : World → Happening → Moment
moment_of w h = record { happening = h; noise = (happened small w h).device }

abbrev step : World → Happening → World
step w h = next small w (moment_of w h)

sent-is : (x : Writing) → x ≡ Sent → x ≢ Unwritten
sent-is x e e' = absurd (let both : Sent ≡ Unwritten = sym e ∙ e' in cc)

module _ (array : Array) (b : Block) (sized : IsArray small array) (b-sized : IsBlock 16 b) where
  abbrev first : World
  first = started small (register_with (InSync 0) 0) (device array)

  abbrev part : Reaches small first (λ later. Stands later (when_writing array b))
  part = is_writing array b b-sized first (stands array)

  abbrev w1 : World
  w1 = after_all small first part.0

  abbrev c1 : Command
  c1 = store 1 0 b

  abbrev c2 : Command
  c2 = store 3 0 (p b (array 1))

  abbrev c3 : Command
  c3 = store 0 0 (q b (array 1))

  abbrev s1 : Shard
  s1 = handed_out (writes_out b (array 1)) 1 c1

  abbrev s2 : Shard
  s2 = handed_out s1 2 c2

  abbrev s3 : Shard
  s3 = handed_out s2 3 c3

  abbrev wa : World
  wa = step w1 (Core 0 (Take_command 1 c1) s1)

  abbrev wb : World
  wb = step wa (Core 0 (Take_command 2 c2) s2)

  abbrev wc : World
  wc = step wb (Core 0 (Take_command 3 c3) s3)

  abbrev wd : World
  wd = step wc (Perform 0 1 c1)

  abbrev last : List Moment
  last =
      moment_of w1 (Core 0 (Take_command 1 c1) s1) ∷ moment_of wa (Core 0 (Take_command 2 c2) s2)
      ∷ moment_of wb (Core 0 (Take_command 3 c3) s3) ∷ moment_of wc (Perform 0 1 c1) ∷ []

  runs-last : Run small IsOfOutside w1 last
  runs-last = (
    (
      omega arith,
      record {},
      subst (λ s. Step small 0 s (Take_command 1 c1) s1) (sym part.2.shard_is)
          ((refl, refl), refl),
    ),
    (
      (omega arith, record {}, ((refl, refl), refl)),
      (
        (omega arith, record {}, ((refl, refl), refl)),
        ((omega arith, refl, (λ e. None-not_Some {A = Command} _ (sym e)), part.2.unused 1 refl), record {}),
      ),
    ),
  )

  ends : after_all small first (part.0 ++ last) ≡ wd
  ends = after-append small first part.0 last

  -- ---- the hold and its commands

  the-hold : (f : ℕ) (h : Hold) → (wd.shard 0).frame f ≡ Some h → all_sent b (array 1) ≡ h
  the-hold f h here = sent-hold b (array 1) f h here

  abbrev Token : ℕ → Type 0
  Token t = (t ≡ 1) ⊎ ((t ≡ 2) ⊎ (t ≡ 3))

  tokens : (t : ℕ) (c : Command) → (wd.shard 0).command t ≡ Some c → Token t
  tokens t c e = elim (cases_eq t 1) [
    | inl same ↦ inl same
    | inr ne1 ↦ elim (cases_eq t 2) [
      | inl same ↦ inr (inl same)
      | inr ne2 ↦ elim (cases_eq t 3) [
        | inl same ↦ inr (inr same)
        | inr ne3 ↦
            absurd (not_both ((wd.shard 0).command t) c (rw (ne_eqb t 1 ne1, ne_eqb t 2 ne2, ne_eqb t 3 ne3) refl) e)
      ]
    ]
  ]

  -- a write that was taken
  stored : (slot t : ℕ) → (wd.shard 0).command t ≡ Some (record (store slot 0 b) { transfer = Storing; taken = true })
      → IsPut wd 0 slot 0 0
  stored slot t e = record {
    token = t;
    frame = 0;
    kept = Storing;
    taken = true;
    copy = false;
    here = e;
    of_hold = omega arith;
    is_write = storing_not_fetch;
  }

  put-at : (slot : ℕ) → slot < 4 → one_lost slot ≡ false → IsPut wd 0 slot 0 0
  put-at zero inside kept = stored 0 3 refl
  put-at (suc zero) inside kept = stored 1 1 refl
  put-at (suc (suc zero)) inside kept = absurd (false≢true (sym kept))
  put-at (suc (suc (suc zero))) inside kept = stored 3 2 refl
  put-at (suc (suc (suc (suc k)))) inside kept = absurd (omega (arith, inside))

  sent-there : SentIsPut small one_lost (λ slot. 0) wd
  sent-there n f h slot judged here inside kept sent =
      let zero-is : 0 ≡ n = omega (arith, judged) in
      subst (λ m. (wd.shard m).frame f ≡ Some h → IsPut wd m slot 0 h.row) zero-is
      (λ e. subst (λ (k : Hold). IsPut wd 0 slot 0 k.row) (the-hold f h e) (put-at slot inside kept)) here

  put-out : ArePutOut (all_sent b (array 1)).course
  put-out = record { firsts = firsts; seconds = seconds }
    where
      one-not : (batch : List (ℕ × Block)) → Writes ((0, b) ∷ []) ≡ Writes batch
          → IsToWrite (all_sent b (array 1)).course (Writes batch) 1 → ⊥
      one-not batch is (inl named) =
          let same : batch ≡ (0, b) ∷ [] = cc in
          absurd (elim (subst (IsIndexOf 1) same named) [
            | inl e ↦ let z : 0 ≡ 1 = e in omega arith
            | inr none ↦ absurd none
          ])
      one-not batch is (inr parity) = absurd (let x : 4 ≤ 3 = parity in omega arith)

      firsts : (batch : List (ℕ × Block)) → (all_sent b (array 1)).course.kind ≡ Writes batch → (at : ℕ)
          → IsToWrite (all_sent b (array 1)).course (Writes batch) at
          → (cell_at (all_sent b (array 1)).course.cells at).standing ≡ Sync
          → IsPutOut (cell_at (all_sent b (array 1)).course.cells at).writing
      firsts batch is zero wanted sync = inl refl
      firsts batch is (suc zero) wanted sync = absurd (one-not batch is wanted)
      firsts batch is (suc (suc zero)) wanted sync = inl refl
      firsts batch is (suc (suc (suc zero))) wanted sync = inl refl
      firsts batch is (suc (suc (suc (suc k)))) wanted sync =
          absurd (let x : suc (suc (suc (suc k))) < 4 =
          not-out-within (all_sent b (array 1)).course.cells (suc (suc (suc (suc k)))) (in_sync_is_not_out _ sync) in
          omega (arith, x))

      seconds : (batch : List (ℕ × Block)) → (all_sent b (array 1)).course.kind ≡ Writes batch → (at : ℕ)
          → IsToWrite (all_sent b (array 1)).course (Writes batch) at
          → (cell_at (all_sent b (array 1)).course.cells at).second ≡ Sync
          → IsPutOut (cell_at (all_sent b (array 1)).course.cells at).copying
      seconds batch is zero wanted sync = absurd (cc)
      seconds batch is (suc zero) wanted sync = absurd (cc)
      seconds batch is (suc (suc zero)) wanted sync = absurd (cc)
      seconds batch is (suc (suc (suc zero))) wanted sync = absurd (cc)
      seconds batch is (suc (suc (suc (suc k)))) wanted sync = absurd (cc)

  -- the hold in a frame of any shard is that of the write
  hold-is : (n f : ℕ) (h : Hold) → n < 1 → (wd.shard n).frame f ≡ Some h → all_sent b (array 1) ≡ h
  hold-is n f h judged here =
      let zero-is : 0 ≡ n = omega (arith, judged) in
      subst (λ m. (wd.shard m).frame f ≡ Some h → all_sent b (array 1) ≡ h) zero-is (the-hold f h) here

  whole-there : BatchesAreWhole small wd
  whole-there n f h judged here new = subst (λ (k : Hold). ArePutOut k.course) (hold-is n f h judged here) put-out

  flown-at : (t : ℕ) → Token t → (flying : Command) × (wd.flight 0 t ≡ Some flying)
  flown-at t (inl e) = (c1, subst (λ k. wd.flight 0 k ≡ Some c1) (sym e) refl)
  flown-at t (inr (inl e)) = (c2, subst (λ k. wd.flight 0 k ≡ Some c2) (sym e) refl)
  flown-at t (inr (inr e)) = (c3, subst (λ k. wd.flight 0 k ≡ Some c3) (sym e) refl)

  journaled-there : (plain : Plain) → IsJournaled small one_lost (λ slot. 0) wd plain all_logged
  journaled-there plain = record {
    computed = λ n f h judged here lg batch is.
        subst (λ (k : Hold). HasNew k.course) (hold-is n f h judged here) (0, inl (sent-is _ refl));
    drained = λ row slot below inside kept lg out.
        let zero-is : 0 ≡ row = omega (arith, below) in
        subst (λ k. (o : IsPut wd (small.shard_of k) slot 0 k) → IsTaken wd (small.shard_of k) slot 0 k o) zero-is
        (λ o. flown-at o.token (tokens o.token _ o.here)) out;
    none_confirmed = λ n f h slot judged here inside kept lg. absurd (false≢true (sym lg));
    none_performed = λ n f h slot judged here inside kept lg. absurd (false≢true (sym lg));
    none_acted = λ n f id block new_data h judged here lg e. absurd (false≢true (sym lg));
  }

  served-there : IsServed small one_lost (λ slot. 0) wd
  served-there =
      served-writing b (array 1) one_lost wd (part.2.few_out, refl) (λ slot. sym (but_one-same slot)) the-hold

  -- ---- the replay

  left-there : Remains
  left-there slot row =
      if slot == 1 then b
      else (if slot == 3 then p b (array 1) else (if slot == 0 then q b (array 1) else wd.device slot 0 row))

  out-at : (slot : ℕ) → slot < 4 → one_lost slot ≡ false → (row : ℕ)
      → (c : Block) × IsOut wd 0 slot 0 0 c × (left-there slot row ≡ c)
  unfolding left-there put-at stored
  out-at zero inside kept row =
      (q b (array 1), record { put = put-at 0 inside kept; flying = c3; flies = refl; carries = refl }, refl)
  out-at (suc zero) inside kept row =
      (b, record { put = put-at 1 inside kept; flying = c1; flies = refl; carries = refl }, refl)
  out-at (suc (suc zero)) inside kept row = absurd (false≢true (sym kept))
  out-at (suc (suc (suc zero))) inside kept row =
      (p b (array 1), record { put = put-at 3 inside kept; flying = c2; flies = refl; carries = refl }, refl)
  out-at (suc (suc (suc (suc k)))) inside kept row = absurd (omega (arith, inside))

  store-inj : (x y : Block) → Store x ≡ Store y → x ≡ y
  store-inj x y e = cc

  -- which block each of the three carries, and where to
  carries-to : (k : Command) (slot row : ℕ) (c : Block) → (o : IsOut wd 0 slot 0 0 c) → (t : ℕ) → o.put.token ≡ t
      → (wd.shard 0).command t ≡ Some (record k { transfer = Storing; taken = true }) → wd.flight 0 t ≡ Some k
      → (sent : Block) → k.transfer ≡ Store sent → left-there k.slot row ≡ sent → left-there slot row ≡ c
  carries-to k slot row c o t e here flies sent is stands =
      let slot-is : k.slot ≡ slot =
      ap (λ (y : Command). y.slot)
      (Some-inj _ _ (sym here ∙ ap (wd.shard 0).command (sym e) ∙ o.put.here)) in
      let transfer-is : k.transfer ≡ o.flying.transfer =
      ap (λ (y : Command). y.transfer) (Some-inj k o.flying (sym flies ∙ ap (wd.flight 0) (sym e) ∙ o.flies)) in
      subst (λ d. left-there d row ≡ c) slot-is (stands ∙ store-inj sent c (sym is ∙ transfer-is ∙ o.carries))

  carried-to : (slot row : ℕ) (c : Block) → (o : IsOut wd 0 slot 0 0 c) → Token o.put.token → left-there slot row ≡ c
  unfolding left-there
  carried-to slot row c o (inl e) = carries-to c1 slot row c o 1 e refl refl b refl refl
  carried-to slot row c o (inr (inl e)) = carries-to c2 slot row c o 2 e refl refl (p b (array 1)) refl refl
  carried-to slot row c o (inr (inr e)) = carries-to c3 slot row c o 3 e refl refl (q b (array 1)) refl refl

  other-slot : (row : ℕ) → left-there 2 row ≡ wd.device 2 0 row
  unfolding left-there
  other-slot row = refl

  replayed-there : IsReplayed small one_lost (λ slot. 0) wd all_logged left-there
  replayed-there = record {
    puts = λ row slot c below inside kept lg o.
        let zero-is : 0 ≡ row = omega (arith, below) in
        subst (λ k. IsOut wd (small.shard_of k) slot 0 k c → left-there slot k ≡ c) zero-is
        (λ o'. carried-to slot 0 c o' (tokens o'.put.token _ o'.put.here)) o;
    nothing_else = λ row slot below inside kept.
        let zero-is : 0 ≡ row = omega (arith, below) in
        subst (λ k. (left-there slot k ≡ wd.device slot 0 k)
        ⊎ ((c : Block) × IsOut wd (small.shard_of k) slot 0 k c × (left-there slot k ≡ c)
        × ((true ≡ true) ⊎ IsFix small wd (small.shard_of k) slot k))) zero-is
        (let put = out-at slot inside kept 0 in inr (put.0, put.1, put.2, inl refl));
  }

  midway : MidwayFrom array b
  midway =
      let plain = plain_after_all small first (at_start array) (part.0 ++ last) in
      record {
        r = register_with (InSync 0) 0;
        device = device array;
        lawful = starts array sized;
        moments = part.0 ++ last;
        is_run = run-append small first part.0 last part.1.run runs-last;
        part_done =
            subst IsPartDone (sym ends)
            (record {
              block_put = λ none. None-not_Some {A = Block} b (sym none);
              p_out = part.2.unused 2 refl;
              q_out = part.2.unused 3 refl;
            });
        served = subst (IsServed small one_lost (λ slot. 0)) (sym ends) served-there;
        sent = subst (SentIsPut small one_lost (λ slot. 0)) (sym ends) sent-there;
        whole = subst (BatchesAreWhole small) (sym ends) whole-there;
        journaled =
            subst (λ w. IsJournaled small one_lost (λ slot. 0) w plain all_logged) (sym ends) (journaled-there plain);
        left = left-there;
        replayed = subst (λ w. IsReplayed small one_lost (λ slot. 0) w all_logged left-there) (sym ends) replayed-there;
      }

pub journal_witness : JournalWitness
journal_witness array b sized b-sized = midway array b sized b-sized
