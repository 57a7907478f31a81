-- Reads that hold no row, when commands come, go and are abandoned.
use Rattle.std.proofs.Common.{◌≡◌, ◌≢◌, ℕ, zero, suc, ◌+◌, ◌<◌, ◌≤◌, true, false, List, [], ◌∷◌, length, set, refl, sym, ap, ◌∙◌, Option, Some, None, inl, inr, arith, get_or-set_same, get_or-set_other}
use Rattle.std.specs.Ordering.{nat_cmp}
use Rattle.std.specs.FinMap as map
use Rattle.std.specs.FinMap.{FinMap}
use Rattle.std.proofs.lemmas.Bool.{cases_eq, false_from_ne_true, false≢true, ne_eqb}
use Rattle.std.proofs.lemmas.List.{length-set}
use Rattle.r6_layout.specs.Shape.{Shape}
use Rattle.r6_layout.specs.Layout.{row_of}
use Rattle.r6_world.specs.Layouts.{IsRowOf}
use Rattle.r6_world.specs.Geometries.{layout_of}
use Rattle.r6_world.specs.ShardStates.{InSyncFor, frames, direct_buffers}
use Rattle.r6_frames.specs.declared.command.Outstanding.{Outstanding}
use Rattle.r6_frames.specs.declared.directs.Direct.{Direct}
use Rattle.r6_frames.specs.declared.directs.DirectRead.{DirectRead}
use Rattle.r6_frames.specs.declared.slots.Slot.{Slot}
use Rattle.r6_frames.specs.FramesState.{Commands}
use Rattle.r6_frames.specs.Slots.{slot_in, states_of, is_abandoned, is_gone}
use Rattle.r6_frames.specs.Directs.{AreDirects, direct_at, no_direct, is_stopped, home_of, count_home_directs}
use Rattle.r6_frames.proofs.Tables.{inserted-own, inserted-other, removed-own, removed-other}

-- ---- the commands of direct reads stay

-- a device to which a command goes on is in sync for the rows for which it was
abbrev pub StaysSynced : Shape → (shard : ℕ) → List Slot → (next : ℕ) → List Slot → Type 0
StaysSynced shape shard slots next slots' =
    (slot token generation row : ℕ) → token < next → IsRowOf (layout_of shape) shard row → is_gone (slot_in slots' slot) token generation ≡ false
    → InSyncFor (states_of slots slot) row generation → InSyncFor (states_of slots' slot) row generation

-- what was abandoned of so many commands is so still
abbrev pub StaysGone : List Slot → (next : ℕ) → List Slot → Type 0
StaysGone slots next slots' =
    (slot token generation : ℕ) → token < next → is_gone (slot_in slots slot) token generation ≡ true → is_gone (slot_in slots' slot) token generation ≡ true

-- each is there as it was, and none has come; more may be abandoned
pub record KeepsDirect (shape : Shape) (shard : ℕ) (slots : List Slot) (commands : Commands) (slots' : List Slot) (commands' : Commands) : Type 0 where
  pub next : commands.next ≤ commands'.next
  pub was : (token : ℕ) (d : Outstanding) → map.get commands'.entries token ≡ Some d → frames ≤ d.frame
      → (c : Outstanding) × (map.get commands.entries token ≡ Some c) × (c.frame ≡ d.frame) × (c.slot ≡ d.slot) × (c.action ≡ d.action) × (c.generation ≡ d.generation)
  pub still : (token : ℕ) (c : Outstanding) → map.get commands.entries token ≡ Some c → frames ≤ c.frame
      → (d : Outstanding) × (map.get commands'.entries token ≡ Some d) × (d.frame ≡ c.frame) × (d.slot ≡ c.slot) × (d.generation ≡ c.generation)
  pub given : (token : ℕ) (c : Outstanding) → map.get commands.entries token ≡ Some c → token < commands.next
  pub gone : StaysGone slots commands.next slots'
  pub stays : StaysSynced shape shard slots commands.next slots'

-- what isn't abandoned later wasn't before
pub not_before : (slots slots' : List Slot) (next token slot generation : ℕ) → StaysGone slots next slots' → token < next
    → is_gone (slot_in slots' slot) token generation ≡ false → is_gone (slot_in slots slot) token generation ≡ false
not_before slots slots' next token slot generation gone given later =
    false_from_ne_true (is_gone (slot_in slots slot) token generation) (λ before. false≢true (sym later ∙ gone slot token generation given before))

pub directs_kept : (shape : Shape) (shard : ℕ) (slots : List Slot) (commands : Commands) (slots' : List Slot) (commands' : Commands) (directs : List Direct)
    → KeepsDirect shape shard slots commands slots' commands' → AreDirects shape shard slots commands directs → AreDirects shape shard slots' commands' directs
directs_kept shape shard slots commands slots' commands' directs keeps are = record {
  count = are.count;
  sized = are.sized;
  reads = λ number r is.
      let read = are.reads number r is in
      let next = keeps.next in
      let given = read.given in
      record { there = read.there; own = read.own; slot = read.slot; sized = read.sized; given = omega arith };
  going = λ number r is on.
      let was = are.going number r is (not_before slots slots' commands.next r.token r.slot r.generation keeps.gone (are.reads number r is).given on) in
      let frame = was.1.frame in
      let now = keeps.still r.token was.0 was.1.there (omega arith) in
      (now.0, record { there = now.1; frame = now.2 ∙ frame; slot = now.3 ∙ was.1.slot; generation = now.4 ∙ was.1.generation });
  synced = λ number r is on.
      let read = are.reads number r is in
      keeps.stays r.slot r.token r.generation (row_of shape r.served.block) read.given read.own on
      (are.synced number r is (not_before slots slots' commands.next r.token r.slot r.generation keeps.gone read.given on));
  of_direct = λ token d there direct.
      let was = keeps.was token d there direct in
      let same = was.2 in
      let of = are.of_direct token was.0 was.1 (omega arith) in (
        of.0,
        record {
          below = of.1.below;
          frame = sym same ∙ of.1.frame;
          reads = sym was.4 ∙ of.1.reads;
          away = of.1.away;
          read = λ wanted.
              let same_place : is_gone (slot_in slots' was.0.slot) token was.0.generation ≡ is_gone (slot_in slots' d.slot) token d.generation = λ i. is_gone (slot_in slots' (was.3 i)) token (was.5 i) in
              let r = of.1.read (not_before slots slots' commands.next token was.0.slot was.0.generation keeps.gone (keeps.given token was.0 was.1) (same_place ∙ wanted)) in
              (r.0, r.1, r.2, r.3 ∙ was.3, r.4 ∙ was.5);
        },
      );
  there = λ number below away.
      let was = are.there number below away in
      let frame = was.3 in
      let now = keeps.still was.0 was.1 was.2 (omega arith) in
      (was.0, now.0, now.1, now.2 ∙ frame);
  alone = λ token other c d is_c is_d direct same.
      let a = keeps.was token c is_c direct in
      let b = keeps.was other d is_d (omega arith) in
      let first = a.2 in
      are.alone token other a.0 b.0 a.1 b.1 (omega arith) (first ∙ same ∙ sym b.2);
}

-- commands are abandoned
pub abandoning : (shape : Shape) (shard : ℕ) (slots slots' : List Slot) (commands : Commands)
    → ((token : ℕ) (c : Outstanding) → map.get commands.entries token ≡ Some c → token < commands.next) → StaysGone slots commands.next slots'
    → StaysSynced shape shard slots commands.next slots'
    → KeepsDirect shape shard slots commands slots' commands
abandoning shape shard slots slots' commands given gone stays = record {
  next = omega arith;
  was = λ token d there direct. (d, there, refl, refl, refl, refl);
  still = λ token c there direct. (c, there, refl, refl, refl);
  given = given;
  gone = gone;
  stays = stays;
}

-- a command is there with another buffer
pub replacing : (shape : Shape) (shard : ℕ) (slots : List Slot) (commands : Commands) (token : ℕ) (c : Outstanding) (buffer : Option (List ℕ)) → map.get commands.entries token ≡ Some c
    → ((t : ℕ) (d : Outstanding) → map.get commands.entries t ≡ Some d → t < commands.next)
    → KeepsDirect shape shard slots commands slots (record { next = commands.next; entries = map.insert commands.entries token (record c { buffer = buffer }) })
replacing shape shard slots commands token c buffer is given = record {
  next = omega arith;
  was = λ t d there direct. elim (cases_eq t token) [
    | inl e ↦
        let both : Some d ≡ Some (record c { buffer = buffer }) = sym there ∙ ap (map.get (map.insert commands.entries token (record c { buffer = buffer }))) e ∙ inserted-own commands.entries token (record c { buffer = buffer }) in
        let same : record c { buffer = buffer } ≡ d = cc in
        (c, ap (map.get commands.entries) e ∙ is, ap (λ (o : Outstanding). o.frame) same, ap (λ (o : Outstanding). o.slot) same, ap (λ (o : Outstanding). o.action) same, ap (λ (o : Outstanding). o.generation) same)
    | inr ne ↦ (d, sym (inserted-other commands.entries token (record c { buffer = buffer }) t (ne_eqb t token ne)) ∙ there, refl, refl, refl, refl)
  ];
  still = λ t d there direct. elim (cases_eq t token) [
    | inl e ↦
        let both : Some c ≡ Some d = sym is ∙ ap (map.get commands.entries) (sym e) ∙ there in
        let same : c ≡ d = cc in (
          record c { buffer = buffer },
          ap (map.get (map.insert commands.entries token (record c { buffer = buffer }))) e ∙ inserted-own commands.entries token (record c { buffer = buffer }),
          ap (λ (o : Outstanding). o.frame) same,
          ap (λ (o : Outstanding). o.slot) same,
          ap (λ (o : Outstanding). o.generation) same,
        )
    | inr ne ↦ (d, inserted-other commands.entries token (record c { buffer = buffer }) t (ne_eqb t token ne) ∙ there, refl, refl, refl)
  ];
  given = given;
  gone = λ slot token generation below before. before;
  stays = λ slot token generation row below own on before. before;
}

-- a command of a frame comes
pub putting : (shape : Shape) (shard : ℕ) (slots : List Slot) (commands : Commands) (c : Outstanding) → c.frame < frames
    → ((token : ℕ) (d : Outstanding) → map.get commands.entries token ≡ Some d → token < commands.next)
    → KeepsDirect shape shard slots commands slots (record { next = commands.next + 1; entries = map.insert commands.entries commands.next c })
putting shape shard slots commands c of_frame given = record {
  next = omega arith;
  was = λ t d there direct. elim (cases_eq t commands.next) [
    | inl e ↦
        let both : Some d ≡ Some c = sym there ∙ ap (map.get (map.insert commands.entries commands.next c)) e ∙ inserted-own commands.entries commands.next c in
        let same : d ≡ c = cc in
        let frame = ap (λ (o : Outstanding). o.frame) same in
        absurd (omega arith)
    | inr ne ↦ (d, sym (inserted-other commands.entries commands.next c t (ne_eqb t commands.next ne)) ∙ there, refl, refl, refl, refl)
  ];
  still = λ t d there direct.
      let below = given t d there in
      let ne : t ≢ commands.next = λ e. omega arith in
      (d, inserted-other commands.entries commands.next c t (ne_eqb t commands.next ne) ∙ there, refl, refl, refl);
  given = given;
  gone = λ slot token generation below before. before;
  stays = λ slot token generation row below own on before. before;
}

-- a command of a frame goes
pub removing : (shape : Shape) (shard : ℕ) (slots : List Slot) (commands : Commands) (token : ℕ) (c : Outstanding) → map.get commands.entries token ≡ Some c → c.frame < frames
    → ((t : ℕ) (d : Outstanding) → map.get commands.entries t ≡ Some d → t < commands.next)
    → KeepsDirect shape shard slots commands slots (record { next = commands.next; entries = map.remove commands.entries token })
removing shape shard slots commands token c is of_frame given = record {
  next = omega arith;
  was = λ t d there direct. elim (cases_eq t token) [
    | inl e ↦ let none : map.get (map.remove commands.entries token) t ≡ None = ap (map.get (map.remove commands.entries token)) e ∙ removed-own commands.entries token in absurd (cc)
    | inr ne ↦ (d, sym (removed-other commands.entries token t (ne_eqb t token ne)) ∙ there, refl, refl, refl, refl)
  ];
  still = λ t d there direct.
      let ne : t ≢ token = λ e.
      let both : Some d ≡ Some c = sym there ∙ ap (map.get commands.entries) e ∙ is in
      let same : d ≡ c = cc in
      let frame = ap (λ (o : Outstanding). o.frame) same in
      omega arith in
      (d, removed-other commands.entries token t (ne_eqb t token ne) ∙ there, refl, refl, refl);
  given = given;
  gone = λ slot token generation below before. before;
  stays = λ slot token generation row below own on before. before;
}

-- ---- the use of one direct buffer changes

pub direct_own : (directs : List Direct) (number : ℕ) (d : Direct) → number < length directs → direct_at (set directs number d) number ≡ d
direct_own directs number d below = get_or-set_same directs number d no_direct below

pub direct_other : (directs : List Direct) (number : ℕ) (d : Direct) (other : ℕ) → other ≢ number → direct_at (set directs number d) other ≡ direct_at directs other
direct_other directs number d other ne = get_or-set_other directs number other d no_direct ne

pub home_directs_set : (directs : List Direct) (number : ℕ) (d : Direct) → number < length directs
    → count_home_directs (set directs number d) + home_of (direct_at directs number).buffer ≡ count_home_directs directs + home_of d.buffer
home_directs_set [] number d below = absurd (omega arith)
home_directs_set (x ∷ directs) zero d below = omega arith
home_directs_set (x ∷ directs) (suc number) d below = omega (arith, home_directs_set directs number d (omega arith))

-- ---- the command of a direct buffer goes, and the buffer comes home

module _ (shape : Shape) (shard : ℕ) (slots : List Slot) (commands : Commands) (directs : List Direct) (are : AreDirects shape shard slots commands directs)
    (token : ℕ) (c : Outstanding) (is : map.get commands.entries token ≡ Some c) (number : ℕ) (below : number < direct_buffers) (at : c.frame ≡ frames + number) where
  abbrev m : FinMap nat_cmp Outstanding
  m = commands.entries

  within : number < length directs
  within = let count = are.count in omega arith

  -- another command has another buffer
  other_command : (t : ℕ) (d : Outstanding) (k : ℕ) → map.get m t ≡ Some d → d.frame ≡ frames + k → k ≢ number → t ≢ token
  other_command t d k there frame ne e =
      let both : Some d ≡ Some c = sym there ∙ ap (map.get m) e ∙ is in
      let same : d ≡ c = cc in
      let frames_same = ap (λ (o : Outstanding). o.frame) same in
      ne (omega arith)

  -- a read of the buffer whose command isn't abandoned has this command
  own_command : (r : DirectRead) → (direct_at directs number).read ≡ Some r → is_stopped slots r ≡ false → (r.token ≡ token) × (r.slot ≡ c.slot) × (r.generation ≡ c.generation)
  own_command r has on =
      let going = are.going number r has on in
      let frame = going.1.frame in
      let same_token : r.token ≡ token = are.alone r.token token going.0 c going.1.there is (omega arith) (frame ∙ sym at) in
      let both : Some going.0 ≡ Some c = sym going.1.there ∙ ap (map.get m) same_token ∙ is in
      let same : going.0 ≡ c = cc in
      (same_token, sym going.1.slot ∙ ap (λ (o : Outstanding). o.slot) same, sym going.1.generation ∙ ap (λ (o : Outstanding). o.generation) same)

  -- so that of an abandoned command has stopped
  pub stopped_read : is_abandoned slots token c ≡ true → (r : DirectRead) → (direct_at directs number).read ≡ Some r → is_stopped slots r ≡ true
  stopped_read abandoned r has =
      elim (is_stopped slots r) as (λ b. is_stopped slots r ≡ b → is_stopped slots r ≡ true) [
        | true ↦ λ e. e
        | false ↦ λ e.
            let own = own_command r has e in
            (λ i. is_gone (slot_in slots (own.1 i)) (own.0 i) (own.2 i)) ∙ abandoned
      ] refl

  module _ (now : Direct) (block : List ℕ) (home : now.buffer ≡ Some block) (size : length block ≡ shape.block)
      (kept : (r : DirectRead) → now.read ≡ Some r → ((direct_at directs number).read ≡ Some r) × (is_stopped slots r ≡ true)) where
    abbrev directs' : List Direct
    directs' = set directs number now

    own : direct_at directs' number ≡ now
    own = direct_own directs number now within

    other : (k : ℕ) → k ≢ number → direct_at directs' k ≡ direct_at directs k
    other k ne = direct_other directs number now k ne

    was_read : (k : ℕ) (r : DirectRead) → (direct_at directs' k).read ≡ Some r → (direct_at directs k).read ≡ Some r
    was_read k r has =
        elim (cases_eq k number) [
          | inl e ↦ ap (λ (n : ℕ). (direct_at directs n).read) e ∙ (kept r (ap (λ (d : Direct). d.read) (sym own) ∙ ap (λ (n : ℕ). (direct_at directs' n).read) (sym e) ∙ has)).0
          | inr ne ↦ ap (λ (d : Direct). d.read) (sym (other k ne)) ∙ has
        ]

    pub directs_home : AreDirects shape shard slots (record { next = commands.next; entries = map.remove m token }) directs'
    directs_home = record {
      count = length-set directs number now ∙ are.count;
      sized = λ k b has. elim (cases_eq k number) [
        | inl e ↦
            let both : Some block ≡ Some b = sym home ∙ ap (λ (d : Direct). d.buffer) (sym own) ∙ ap (λ (n : ℕ). (direct_at directs' n).buffer) (sym e) ∙ has in
            let same : block ≡ b = cc in
            ap length (sym same) ∙ size
        | inr ne ↦ are.sized k b (ap (λ (d : Direct). d.buffer) (sym (other k ne)) ∙ has)
      ];
      reads = λ k r has. let read = are.reads k r (was_read k r has) in record { there = read.there; own = read.own; slot = read.slot; sized = read.sized; given = read.given };
      going = λ k r has on. elim (cases_eq k number) [
        | inl e ↦
            let stopped = (kept r (ap (λ (d : Direct). d.read) (sym own) ∙ ap (λ (n : ℕ). (direct_at directs' n).read) (sym e) ∙ has)).1 in
            absurd (cc)
        | inr ne ↦
            let going = are.going k r (was_read k r has) on in
            let apart = other_command r.token going.0 k going.1.there going.1.frame ne in
            (going.0, record { there = removed-other m token r.token (ne_eqb r.token token apart) ∙ going.1.there; frame = going.1.frame; slot = going.1.slot; generation = going.1.generation })
      ];
      synced = λ k r has on. elim (cases_eq k number) [
        | inl e ↦
            let stopped = (kept r (ap (λ (d : Direct). d.read) (sym own) ∙ ap (λ (n : ℕ). (direct_at directs' n).read) (sym e) ∙ has)).1 in
            absurd (cc)
        | inr ne ↦ are.synced k r (was_read k r has) on
      ];
      of_direct = λ t d there direct. elim (cases_eq t token) [
        | inl e ↦ let none : map.get (map.remove m token) t ≡ None = ap (map.get (map.remove m token)) e ∙ removed-own m token in absurd (cc)
        | inr apart ↦
            let before = sym (removed-other m token t (ne_eqb t token apart)) ∙ there in
            let of = are.of_direct t d before direct in
            let ne : of.0 ≢ number = λ e.
            let frame = of.1.frame in
            apart (are.alone t token d c before is direct (omega arith)) in
            let same = other of.0 ne in (
              of.0,
              record {
                below = of.1.below;
                frame = of.1.frame;
                reads = of.1.reads;
                away = ap (λ (x : Direct). x.buffer) same ∙ of.1.away;
                read = λ wanted. let r = of.1.read wanted in (r.0, ap (λ (x : Direct). x.read) same ∙ r.1, r.2, r.3, r.4);
              },
            )
      ];
      there = λ k inside away.
          let ne : k ≢ number = λ e.
          let both : Some block ≡ None = sym home ∙ ap (λ (d : Direct). d.buffer) (sym own) ∙ ap (λ (n : ℕ). (direct_at directs' n).buffer) (sym e) ∙ away in
          cc in
          let has = are.there k inside (ap (λ (d : Direct). d.buffer) (sym (other k ne)) ∙ away) in
          let apart = other_command has.0 has.1 k has.2 has.3 ne in
          (has.0, has.1, removed-other m token has.0 (ne_eqb has.0 token apart) ∙ has.2, has.3);
      alone = λ t u d e is_d is_e direct same.
          let was : (t : ℕ) (d : Outstanding) → map.get (map.remove m token) t ≡ Some d → map.get m t ≡ Some d =
          λ t d there. elim (cases_eq t token) [
            | inl e ↦ let none : map.get (map.remove m token) t ≡ None = ap (map.get (map.remove m token)) e ∙ removed-own m token in absurd (cc)
            | inr apart ↦ sym (removed-other m token t (ne_eqb t token apart)) ∙ there
          ] in
          are.alone t u d e (was t d is_d) (was u e is_e) direct same;
    }

    -- one buffer more is home
    pub one_home : (direct_at directs number).buffer ≡ None → count_home_directs directs' ≡ count_home_directs directs + 1
    one_home away = omega (arith, home_directs_set directs number now within, ap home_of away, ap home_of home)
