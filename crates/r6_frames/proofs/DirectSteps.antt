-- The steps of the shard that direct reads make.
use Rattle.std.proofs.Common.{◌≡◌, ℕ, ◌<◌, ◌≤◌, ◌-◌, true, false, List, length, refl, sym, ap, subst, ◌∙◌, Option, Some, None, inl, inr, arith}
use Rattle.std.specs.Prelude.{◌&&◌, is_none, is_some, option_map}
use Rattle.std.proofs.lemmas.Bool.{lt-ltb}
use Rattle.r6_layout.specs.Layout as layout
use Rattle.r6_stripe.specs.Plans.{is_in_sync}
use Rattle.r6_world.specs.Layouts.{IsRowOf}
use Rattle.r6_world.specs.Geometries.{layout_of}
use Rattle.r6_world.specs.PlainArray as world
use Rattle.r6_layout.specs.PlainArray.{Block}
use Rattle.r6_world.specs.ShardStates as shards
use Rattle.r6_world.specs.ShardStates.{Shard, Stage, Waiting, Erred, Reading, Finished, frames, direct_buffers, limit, IsFirstFor, standing_of}
use Rattle.r6_world.proofs.Geometries.{layouts}
use Rattle.r6_frames.specs.declared.command.Outstanding.{Outstanding}
use Rattle.r6_frames.specs.declared.directs.Direct.{Direct}
use Rattle.r6_frames.specs.declared.directs.DirectRead.{DirectRead}
use Rattle.r6_frames.specs.declared.frames.ServedRequest.{ServedRequest}
use Rattle.r6_world.specs.declared.values.Op.TheVariants as op
use Rattle.r6_frames.specs.FramesState.{FramesState}
use Rattle.r6_frames.specs.Slots.{first_of, is_abandoned, is_gone, slot_in, states_of}
use Rattle.r6_frames.specs.Views.{outstanding, command_of, shard_with, AreLive}
use Rattle.r6_frames.specs.Calls.{IsAwaited, IsAbandoned}
use Rattle.r6_frames.specs.Directs.{IsReadOf, IsOfDirect, is_free_direct, direct_at, is_stopped, stage_of, read_request, read_entry, read_requests, lent_for, left_by}
use Rattle.r6_frames.specs.Reads.{IsPassedOnIn, IsOfRead, IsReadable, IsWithEntry, IsFirstStopped, ReadsDirectly, AnswersRead, SetsBack, HandsBack, reading, with_request}
use Rattle.r6_frames.specs.Sound.{IsSound}
use Rattle.r6_frames.proofs.BuffersHome.{live_cases, commands_gone}
use Rattle.r6_frames.proofs.CommandComes.{command_came, goes_on_at}
use Rattle.r6_frames.proofs.Completions.{not_abandoned}
use Rattle.r6_frames.proofs.Devices.{first_for, has_first, stands_in}
use Rattle.r6_frames.proofs.Resting.{command-there, passed_on_is}
use Rattle.r6_frames.proofs.DirectCommands.{read_of, command_for, with_read, no_old, with_home, home_sound, without_read}
use Rattle.r6_frames.proofs.ReadsAgain.{read_comes, read_goes}

-- the entry of a read that goes on, and of one that has stopped
entry_in : (few more : List (ℕ × shards.Request)) (r : DirectRead) (stopped : _) (is : _) → stopped ≡ is → IsWithEntry few (read_entry r (stage_of stopped r.token)) more → IsWithEntry few (read_entry r (stage_of is r.token)) more
entry_in few more r stopped is same entry = subst (λ b. IsWithEntry few (read_entry r (stage_of b r.token)) more) same entry

-- ---- a direct read is put out

-- a direct buffer that is free is home, and no read has it
pub free_parts : (d : Direct) → is_free_direct d ≡ true → (d.read ≡ None) × (block : List ℕ) × (d.buffer ≡ Some block)
free_parts d free = by_fields d.read d.buffer free
  where
    by_fields : (o : Option DirectRead) (b : Option (List ℕ)) → (is_none o && is_some b) ≡ true → (o ≡ None) × (block : List ℕ) × (b ≡ Some block)
    by_fields None (Some block) free = (refl, block, refl)
    by_fields None None free = absurd (cc)
    by_fields (Some r) b free = absurd (cc)

module _ (fs : FramesState) (number generation : ℕ) (served : ServedRequest) (buffer block : List ℕ) (sound : IsSound fs) (live : AreLive fs) (below : number < direct_buffers)
    (home : (direct_at fs.directs number).buffer ≡ Some block) (none : (direct_at fs.directs number).read ≡ None) (readable : IsReadable fs served buffer) where
  abbrev row : ℕ
  row = layout.row_of fs.geometry served.block

  abbrev slot : ℕ
  slot = layout.slot_at fs.geometry row (layout.index_of fs.geometry served.block)

  abbrev pub read_out : FramesState
  read_out = with_read fs number slot generation row served buffer block

  pub own_row : IsRowOf (layout_of fs.geometry) fs.shard row
  own_row = (((layouts fs.geometry sound.shape).placed served.block readable.there).0, readable.own)

  pub slot_below : slot < fs.geometry.slots
  slot_below =
      let placed = (layouts fs.geometry sound.shape).placed served.block readable.there in
      let wide = (layouts fs.geometry sound.shape).wide in
      let index = placed.1 in
      ((layouts fs.geometry sound.shape).back row (layout.index_of fs.geometry served.block) own_row.0 (omega arith)).0

  abbrev r : DirectRead
  r = read_of fs number slot generation row served buffer block

  -- the first device, which is in sync for the row
  module _ (in_sync : is_in_sync (standing_of (states_of fs.slots slot) row) ≡ true) (has : first_of (slot_in fs.slots slot).device ≡ Some generation) where
    pub first : IsFirstFor (states_of fs.slots slot) row generation
    first = first_for (slot_in fs.slots slot).device row generation (stands_in (states_of fs.slots slot) row in_sync) has

    going : is_stopped fs.slots r ≡ false
    going = goes_on_at (slot_in fs.slots slot) fs.commands.next generation (has_first (slot_in fs.slots slot).device generation has) (sound.commands.since slot).0 (sound.commands.since slot).1

  pub reads_directly : fs.commands.next < limit → (in_sync : is_in_sync (standing_of (states_of fs.slots slot) row) ≡ true) → (has : first_of (slot_in fs.slots slot).device ≡ Some generation) → (IsPassedOnIn fs row slot → ⊥) → ReadsDirectly fs number served read_out
  reads_directly few synced has unpassed = record {
    requests =
        entry_in (read_requests fs) (read_requests read_out) r (is_stopped fs.slots r) false (going synced has)
        (read_comes fs.slots fs.directs number (lent_for r) r (let count = sound.directs.count in omega arith) none refl);
    same = (refl, refl);
    generation = generation;
    shard = λ rest stands. (
      (
        (
          omega arith,
          omega arith,
          λ token c is at.
              let there = command-there rest fs token c is in
              no_old fs number slot generation row served buffer block sound live below home slot_below own_row readable refl (first synced has).0 token there.0 there.1 (ap (λ (x : shards.Command). x.frame) there.2 ∙ at),
        ),
        stands,
        own_row,
        slot_below,
        first synced has,
        live,
        few,
        λ passed. unpassed (passed_on_is rest fs row slot passed),
      ),
      λ i. record (shard_with (with_request rest (reading served.id served.block (Reading fs.commands.next))) read_out) {
        command = command_came fs.slots fs.commands.entries fs.next_taken fs.commands.next (command_for fs number slot generation row served buffer block) sound.commands.next_taken (going synced has) i;
      },
    );
  }

-- ---- and answered

-- the frames when it was, with a buffer at home
abbrev back : Block → Direct
back buffer = record { read = None; buffer = Some buffer }

abbrev pub read_in : FramesState → ℕ → ℕ → Block → FramesState
read_in fs token number buffer = with_home fs token number (back buffer)

module _ (fs : FramesState) (token : ℕ) (c : Outstanding) (number : ℕ) (r : DirectRead) (taken : token < fs.next_taken) (there : outstanding fs token ≡ Some c)
    (wanted : is_abandoned fs.slots token c ≡ false) (has : (direct_at fs.directs number).read ≡ Some r) (own : r.token ≡ token) (slot : r.slot ≡ c.slot) (current : r.generation ≡ c.generation) (within : number < length fs.directs) where
  still_going : is_stopped fs.slots r ≡ false
  still_going = (λ i. is_gone (slot_in fs.slots (slot i)) (own i) (current i)) ∙ wanted

  -- its entry is gone
  entry_gone : (buffer : Block) → IsWithEntry (read_requests (read_in fs token number buffer)) (read_entry r (Reading token)) (read_requests fs)
  entry_gone buffer =
      subst (λ (t : ℕ). IsWithEntry (read_requests (read_in fs token number buffer)) (read_entry r (Reading t)) (read_requests fs)) own
      (entry_in (read_requests (read_in fs token number buffer)) (read_requests fs) r (is_stopped fs.slots r) false still_going
      (read_goes fs.slots fs.directs number (back buffer) r within has refl))

  -- the buffers are exchanged
  pub answers_read : (block : Block) → AnswersRead fs token block (record (read_request r) { op = op.Read r.served.block block }) (read_in fs token number r.buffer)
  answers_read block = record {
    number = number;
    read = r;
    there = has;
    own = own;
    is = refl;
    requests = entry_gone r.buffer;
    same = (refl, refl);
    shard = λ rest stands. (
      c,
      there,
      (refl, refl, lt-ltb token fs.next_taken taken),
      (ap (option_map (command_of fs.slots fs.next_taken token)) there, wanted, stands),
      λ i. record (shard_with (with_request rest (read_entry r (Finished (world.Reply.Data block)))) (read_in fs token number r.buffer)) { command = commands_gone fs.slots fs.commands.entries fs.next_taken token i },
    );
  }

  -- or each has its own
  pub sets_back : (buffer : Block) → IsReadOf fs.geometry fs.shard fs.commands r → SetsBack fs token (read_request r) (read_in fs token number buffer)
  sets_back buffer of = record {
    number = number;
    read = r;
    there = has;
    own = own;
    is = refl;
    of = record { there = of.there; own = of.own.1; sized = of.sized };
    requests = entry_gone buffer;
    same = (refl, refl);
    shard = λ rest stands. (
      c,
      there,
      lt-ltb token fs.next_taken taken,
      (ap (option_map (command_of fs.slots fs.next_taken token)) there, wanted, stands),
      λ i. record (shard_with (with_request rest (read_entry r Erred)) (read_in fs token number buffer)) { command = commands_gone fs.slots fs.commands.entries fs.next_taken token i },
    );
  }

-- the command of a direct read has its direct buffer
module _ (fs : FramesState) (token : ℕ) (c : Outstanding) (sound : IsSound fs) (wanted : IsAbandoned fs token → ⊥) (read : IsOfRead fs token) (there : outstanding fs token ≡ Some c) where
  pub is_direct : frames ≤ c.frame
  is_direct =
      let both : Some read.0 ≡ Some c = sym read.1 ∙ there in
      let same : read.0 ≡ c = cc in
      subst (λ (o : Outstanding). frames ≤ o.frame) same read.2

  of_direct : IsOfDirect fs.slots fs.directs token c (c.frame - 64)
  of_direct =
      let found = sound.directs.of_direct token c there is_direct in
      let frame = found.1.frame in
      subst (IsOfDirect fs.slots fs.directs token c) (let same : found.0 ≡ c.frame - 64 = omega arith in same) found.1

  still : is_abandoned fs.slots token c ≡ false
  still = not_abandoned fs token c there wanted

  pub within_answered : c.frame - 64 < length fs.directs
  within_answered = let below = of_direct.below in let count = sound.directs.count in omega arith

  pub read_answered : (r : DirectRead) × ((direct_at fs.directs (c.frame - 64)).read ≡ Some r)
  read_answered = let its = of_direct.read still in (its.0, its.1)

module _ (fs : FramesState) (token : ℕ) (c : Outstanding) (r : DirectRead) (sound : IsSound fs) (awaited : IsAwaited fs token) (wanted : IsAbandoned fs token → ⊥) (read : IsOfRead fs token)
    (there : outstanding fs token ≡ Some c) (has : (direct_at fs.directs (c.frame - 64)).read ≡ Some r) where
  abbrev number : ℕ
  number = c.frame - 64

  of : IsOfDirect fs.slots fs.directs token c number
  of = of_direct fs token c sound wanted read there

  unabandoned : is_abandoned fs.slots token c ≡ false
  unabandoned = still fs token c sound wanted read there

  within : number < length fs.directs
  within = within_answered fs token c sound wanted read there

  own_read : (r.token ≡ token) × (r.slot ≡ c.slot) × (r.generation ≡ c.generation)
  own_read =
      let its = of.read unabandoned in
      let both : Some its.0 ≡ Some r = sym its.1 ∙ has in
      let same : its.0 ≡ r = cc in
      subst (λ (x : DirectRead). (x.token ≡ token) × (x.slot ≡ c.slot) × (x.generation ≡ c.generation)) same (its.2, its.3, its.4)

  pub live_answered : AreLive fs
  live_answered = elim (live_cases fs) [
    | inl live ↦ live
    | inr stopped ↦ absurd (wanted (c, there, sound.commands.stopped stopped token c there))
  ]

  pub answered_sound : (buffer : Block) → length buffer ≡ fs.geometry.block → IsSound (read_in fs token number buffer)
  answered_sound buffer sized = home_sound fs token number (back buffer) c sound awaited.2 there of.below of.frame buffer refl sized (λ s none. absurd (cc))

  -- the caller's buffer is one block
  pub sized_answered : length r.buffer ≡ fs.geometry.block
  sized_answered = (sound.directs.reads number r has).sized.length_is

  pub answered : (block : Block) → AnswersRead fs token block (record (read_request r) { op = op.Read r.served.block block }) (read_in fs token number r.buffer)
  answered = answers_read fs token c number r awaited.2 there unabandoned has own_read.0 own_read.1 own_read.2 within

  pub set_back : (buffer : Block) → SetsBack fs token (read_request r) (read_in fs token number buffer)
  set_back buffer = sets_back fs token c number r awaited.2 there unabandoned has own_read.0 own_read.1 own_read.2 within buffer (sound.directs.reads number r has)

-- ---- or handed back

pub hands_back : (fs : FramesState) (number : ℕ) (r : DirectRead) → IsSound fs → IsFirstStopped fs number r → number < length fs.directs → HandsBack fs (read_request r) (without_read fs number r)
hands_back fs number r sound lowest within =
    let read = sound.directs.reads number r lowest.0.0 in
    record {
      number = number;
      read = r;
      lowest = lowest;
      is = refl;
      own = record { there = read.there; own = read.own.1; sized = read.sized };
      requests =
          entry_in (read_requests (without_read fs number r)) (read_requests fs) r (is_stopped fs.slots r) true lowest.0.1
          (read_goes fs.slots fs.directs number (left_by (direct_at fs.directs number)) r within lowest.0.0 refl);
      same = (refl, refl);
      shard = λ rest. refl;
    }
