-- One row of an array, read slot by slot.
use Rattle.std.proofs.Common.{◌≡◌, ◌≢◌, ℕ, ◌+◌, ◌<◌, ◌≤◌, Bool, true, false, List, [], length, get_or, set, is_some, Option, Some, None, refl, sym, ap, subst, ◌∙◌, arith, ⊎_elim, replicate}
use Rattle.std.proofs.lemmas.Bool.{cases_eq, cases_lt, false≢true}
use Rattle.std.proofs.lemmas.List.{get_or-set_same, get_or-set_other, get_or-replicate, get_or_past, length-set, length-replicate, set-get_or}
use Rattle.std.specs.Prelude.{option_map}
use Rattle.r6_dev.specs.History.{Answers, Block, Reads, Telling}
use Rattle.r6_layout.specs.Shape.{Shape, IsShape}
use Rattle.r6_layout.specs.Layout.{OwnsRow, shard_of, slot_at, position_at, first_row}
use Rattle.r6_layout.proofs.Roles.{slot_at-lt, position_at-lt, position_at-slot_at, slot_at-position_at}
use Rattle.r6_layout.proofs.Shards.{OwnsRow-shard_of}
use Rattle.r6_recover.specs.Known.{IsKnown}
use Rattle.r6_recover.specs.Rows.{block_at}
use Rattle.r6_offline.specs.Parts.{Parts, Devices, TellsRows, AllTell, OnlyRead, PartRead, part_number, parts_of}
use Rattle.r6_offline.specs.Rows.{AreThere, Fits, IsRow, ReadFails, SlotRead, RowRead, marked}
use Rattle.r6_offline.specs.declared.row.RowReader.{RowReader}
use Rattle.r6_offline.specs.declared.row.SlotFault.{SlotFault}

pub only_read_none : (parts : Parts) → OnlyRead parts parts
only_read_none parts = record { tells = λ number first end blocks tell. tell; there = λ number. refl }

pub only_read_both : (old between new : Parts) → OnlyRead old between → OnlyRead between new → OnlyRead old new
only_read_both old between new first second = record {
  tells = λ number from end blocks tell. second.tells number from end blocks (first.tells number from end blocks tell);
  there = λ number. second.there number ∙ first.there number;
}

-- ---- one part

tells_still : (old new : Telling) (row : ℕ) (block : Block) (first end : ℕ) (blocks : ℕ → Block) → Answers old (Reads row block) new
    → TellsRows first end blocks (Some old) → TellsRows first end blocks (Some new)
tells_still None new row block first end blocks answers tells = absurd tells
tells_still (Some told) new row block first end blocks answers tells = subst (λ (t : Telling). TellsRows first end blocks (Some t)) (sym answers.1) tells

tells_block : (old new : Telling) (row : ℕ) (block : Block) (first end : ℕ) (blocks : ℕ → Block) → Answers old (Reads row block) new
    → first ≤ row → row < end → TellsRows first end blocks (Some old) → block ≡ blocks row
tells_block None new row block first end blocks answers from below tells = absurd tells
tells_block (Some told) new row block first end blocks answers from below tells = answers.0 ∙ tells row from below

-- a part that is there tells what it told
pub only_read_set : {D : Type 0} (told : D → Telling) (parts : List (Option D)) (number : ℕ) (device next : D)
    → number < length parts → get_or parts number None ≡ Some device
    → ((first end : ℕ) (blocks : ℕ → Block) → TellsRows first end blocks (Some (told device)) → TellsRows first end blocks (Some (told next)))
    → OnlyRead (parts_of told parts) (parts_of told (set parts number (Some next)))
only_read_set told parts number device next within is still =
    let old : Parts = parts_of told parts in
    let new : Parts = parts_of told (set parts number (Some next)) in
    let was : old number ≡ Some (told device) = ap (option_map told) is in
    let now : new number ≡ Some (told next) = ap (option_map told) (get_or-set_same parts number (Some next) None within) in
    let other : (n : ℕ) → n ≢ number → new n ≡ old n = λ n apart. ap (option_map told) (get_or-set_other parts number n (Some next) None apart) in
    record {
      tells = λ n first end blocks tells.
          ⊎_elim
          (λ (here : n ≡ number).
          subst (λ (k : ℕ). TellsRows first end blocks (new k)) (sym here)
          (subst (TellsRows first end blocks) (sym now)
          (still first end blocks
          (subst (TellsRows first end blocks) was (subst (λ (k : ℕ). TellsRows first end blocks (old k)) here tells)))))
          (λ (apart : n ≢ number). subst (TellsRows first end blocks) (sym (other n apart)) tells)
          (cases_eq n number);
      there = λ n.
          ⊎_elim
          (λ (here : n ≡ number). ap (λ (k : ℕ). is_some (new k)) here ∙ ap is_some now ∙ sym (ap is_some was) ∙ sym (ap (λ (k : ℕ). is_some (old k)) here))
          (λ (apart : n ≢ number). ap is_some (other n apart))
          (cases_eq n number);
    }

-- a part that is there answered a read
pub part_read : {D : Type 0} (told : D → Telling) (parts : List (Option D)) (number row : ℕ) (block : Block) (device next : D)
    → number < length parts → get_or parts number None ≡ Some device → Answers (told device) (Reads row block) (told next)
    → PartRead (parts_of told parts) (parts_of told (set parts number (Some next))) number row true block
part_read told parts number row block device next within is answers =
    let was : parts_of told parts number ≡ Some (told device) = ap (option_map told) is in
    record {
      only_read = only_read_set told parts number device next within is
          (λ first end blocks tells. tells_still (told device) (told next) row block first end blocks answers tells);
      gives = λ _ first end blocks from below tells.
          tells_block (told device) (told next) row block first end blocks answers from below (subst (TellsRows first end blocks) was tells);
      is_there = sym (ap is_some was);
    }

-- a part that isn't there is left as it is
pub part_absent : {D : Type 0} (told : D → Telling) (parts : List (Option D)) (number row : ℕ) (block : Block) (part : Option D)
    → get_or parts number None ≡ None → PartRead (parts_of told parts) (parts_of told (set parts number (get_or parts number part))) number row false block
part_absent told parts number row block part none =
    let read : OnlyRead (parts_of told parts) (parts_of told parts) = only_read_none (parts_of told parts) in
    record {
      only_read = subst (λ after. OnlyRead (parts_of told parts) (parts_of told after)) (sym (set-get_or parts number part)) read;
      gives = λ yes'. absurd (false≢true yes');
      is_there = sym (ap is_some (ap (option_map told) none));
    }

pub all_tell_still : (shape : Shape) (old new : Parts) (device : Devices) → OnlyRead old new → AllTell shape old device → AllTell shape new device
all_tell_still shape old new device read tell =
    λ shard slot in_shards in_slots. read.tells (part_number shape shard slot) (first_row shape shard) (first_row shape (shard + 1)) (device slot) (tell shard slot in_shards in_slots)

-- a part's block is the one of its device
pub part_gives : (shape : Shape) (old new : Parts) (row slot number : ℕ) (block : Block) (device : Devices)
    → IsShape shape → row < shape.rows → slot < shape.slots → number ≡ part_number shape (shard_of shape row) slot
    → PartRead old new number row true block → AllTell shape old device → block ≡ device slot row
part_gives shape old new row slot number block device is within in_slots at read tell =
    let owner : OwnsRow shape (shard_of shape row) row = OwnsRow-shard_of shape row is within in
    let tells : TellsRows (first_row shape (shard_of shape row)) (first_row shape (shard_of shape row + 1)) (device slot) (old number) =
    subst (λ (n : ℕ). TellsRows (first_row shape (shard_of shape row)) (first_row shape (shard_of shape row + 1)) (device slot) (old n)) (sym at)
    (tell (shard_of shape row) slot owner.is_shard in_slots) in
    read.gives refl (first_row shape (shard_of shape row)) (first_row shape (shard_of shape row + 1)) (device slot) owner.from_first owner.below_next tells

pub slot_read : (shape : Shape) (old new : Parts) (row slot number position : ℕ) (before after : List Block) (block : Block)
    → IsShape shape → row < shape.rows → slot < shape.slots → length before ≡ shape.slots
    → number ≡ part_number shape (shard_of shape row) slot → position ≡ position_at shape row slot
    → after ≡ set before position block → PartRead old new number row true block → SlotRead shape old new row slot true before after
slot_read shape old new row slot number position before after block is within in_slots count at place set_is read =
    let n : shape.slots ≡ length before = sym count in
    let some : 0 < shape.slots = omega (arith, in_slots) in
    let below : position < length before = subst (λ (p : ℕ). p < length before) (sym place) (subst (λ (k : ℕ). position_at shape row slot < k) n (position_at-lt shape row slot some)) in
    record {
      only_read = read.only_read;
      gives = λ _ device tell.
          subst (λ (p : ℕ). block_at after p ≡ device slot row) place
          (subst (λ (blocks : List Block). block_at blocks position ≡ device slot row) (sym set_is)
          (get_or-set_same before position block [] below ∙ part_gives shape old new row slot number block device is within in_slots at read tell));
      is_there = read.is_there ∙ ap (λ (n : ℕ). is_some (old n)) at;
      others = λ other apart.
          subst (λ (blocks : List Block). block_at blocks other ≡ block_at before other) (sym set_is)
          (get_or-set_other before position other block [] (λ same. apart (same ∙ place)));
    }

-- a block of the row was exchanged for one of the same length
pub fits_swapped : (shape : Shape) (before after : RowReader) (position : ℕ) (block : Block) → Fits shape before
    → position < shape.slots → length block ≡ shape.block → after.blocks ≡ set before.blocks position block
    → after.block ≡ block_at before.blocks position → Fits shape after
fits_swapped shape before after position block fits within long row other =
    let in_row : position < length before.blocks = subst (λ (n : ℕ). position < n) (sym fits.count) within in
    record {
      count = ap length row ∙ length-set before.blocks position block ∙ fits.count;
      long = λ k below.
          subst (λ (blocks : List Block). length (block_at blocks k) ≡ shape.block) (sym row)
          (⊎_elim
          (λ (here : k ≡ position).
          ap (λ (n : ℕ). length (block_at (set before.blocks position block) n)) here
          ∙ ap length (get_or-set_same before.blocks position block [] in_row) ∙ long)
          (λ (apart : k ≢ position). ap length (get_or-set_other before.blocks position k block [] apart) ∙ fits.long k below)
          (cases_eq k position));
      block = ap length other ∙ fits.long position within;
    }

-- the slots below the count were read
pub record SlotsRead (shape : Shape) (old now : Parts) (row count : ℕ) (known : List Bool) (blocks : List Block) : Type 0 where
  pub only_read : OnlyRead old now
  pub room : length known ≡ 32
  pub unread : (slot : ℕ) → count ≤ slot → slot < shape.slots → get_or known (position_at shape row slot) false ≡ false
  pub gives : (device : Devices) → AllTell shape old device → (slot : ℕ) → slot < count → IsKnown known (position_at shape row slot) → block_at blocks (position_at shape row slot) ≡ device slot row
  pub is_there : (slot : ℕ) → slot < count → get_or known (position_at shape row slot) false ≡ is_some (old (part_number shape (shard_of shape row) slot))

pub none_known : (position : ℕ) → get_or (replicate 32 false) position false ≡ false
none_known position =
    ⊎_elim
    (λ (h : position < 32). get_or-replicate 32 position false false h)
    (λ (past : 32 ≤ position). get_or_past (replicate 32 false) position false (subst (λ (n : ℕ). n ≤ position) (sym (length-replicate 32 false)) past))
    (cases_lt position 32)

pub slots_read_none : (shape : Shape) (parts : Parts) (row : ℕ) (blocks : List Block) → SlotsRead shape parts parts row 0 (replicate 32 false) blocks
slots_read_none shape parts row blocks = record {
  only_read = only_read_none parts;
  room = length-replicate 32 false;
  unread = λ slot _ _. none_known (position_at shape row slot);
  gives = λ device tell slot below. absurd (omega (arith, below));
  is_there = λ slot below. absurd (omega (arith, below));
}

-- two slots of a row have two positions
positions_apart : (shape : Shape) (row slot other : ℕ) → slot < shape.slots → other < shape.slots → other ≢ slot → position_at shape row other ≢ position_at shape row slot
positions_apart shape row slot other in_slots in_slots' apart same =
    apart (sym (slot_at-position_at shape row other in_slots') ∙ ap (slot_at shape row) same ∙ slot_at-position_at shape row slot in_slots)

-- one slot more, of a part that is there
slots_read_there : (shape : Shape) (old now next : Parts) (row slot : ℕ) (known : List Bool) (before after : List Block)
    → slot < shape.slots → shape.slots ≤ 32 → SlotsRead shape old now row slot known before → SlotRead shape now next row slot true before after
    → SlotsRead shape old next row (slot + 1) (set known (position_at shape row slot) true) after
slots_read_there shape old now next row slot known before after in_slots few read one =
    let number : ℕ → ℕ = part_number shape (shard_of shape row) in
    let at = position_at shape row slot in
    let some : 0 < shape.slots = omega (arith, in_slots) in
    let place : at < shape.slots = position_at-lt shape row slot some in
    let room : length known ≡ 32 = read.room in
    let below : at < length known = omega (arith, place, few, room) in
    let other : (slot' : ℕ) → slot' ≢ slot → slot' < shape.slots → get_or (set known at true) (position_at shape row slot') false ≡ get_or known (position_at shape row slot') false =
    λ slot' apart within. get_or-set_other known at (position_at shape row slot') true false (positions_apart shape row slot slot' in_slots within apart) in
    record {
      only_read = only_read_both old now next read.only_read one.only_read;
      room = length-set known at true ∙ room;
      unread = λ slot' from within. other slot' (λ same. absurd (omega (arith, same, from))) within ∙ read.unread slot' (omega (arith, from)) within;
      gives = λ device tell slot' under known'.
          ⊎_elim
          (λ (same : slot' ≡ slot). subst (λ (s : ℕ). block_at after (position_at shape row s) ≡ device s row) (sym same) (one.gives refl device (all_tell_still shape old now device read.only_read tell)))
          (λ (apart : slot' ≢ slot).
          let within : slot' < shape.slots = omega (arith, under, in_slots) in
          let less : slot' < slot = omega (arith, under, apart) in
          one.others (position_at shape row slot') (positions_apart shape row slot slot' in_slots within apart)
          ∙ read.gives device tell slot' less (sym (other slot' apart within) ∙ known'))
          (cases_eq slot' slot);
      is_there = λ slot' under.
          ⊎_elim
          (λ (same : slot' ≡ slot).
          ap (λ s. get_or (set known at true) (position_at shape row s) false) same ∙ get_or-set_same known at true false below
          ∙ one.is_there ∙ read.only_read.there (number slot) ∙ ap (λ s. is_some (old (number s))) (sym same))
          (λ (apart : slot' ≢ slot).
          let within : slot' < shape.slots = omega (arith, under, in_slots) in
          let less : slot' < slot = omega (arith, under, apart) in
          other slot' apart within ∙ read.is_there slot' less)
          (cases_eq slot' slot);
    }

-- one slot more, whose part isn't there
slots_read_absent : (shape : Shape) (old now next : Parts) (row slot : ℕ) (known : List Bool) (before after : List Block)
    → slot < shape.slots → SlotsRead shape old now row slot known before → SlotRead shape now next row slot false before after
    → SlotsRead shape old next row (slot + 1) known after
slots_read_absent shape old now next row slot known before after in_slots read one =
    let number : ℕ → ℕ = part_number shape (shard_of shape row) in
    record {
      only_read = only_read_both old now next read.only_read one.only_read;
      room = read.room;
      unread = λ slot' from within. read.unread slot' (omega (arith, from)) within;
      gives = λ device tell slot' under known'.
          ⊎_elim
          (λ (same : slot' ≡ slot).
          let unknown : get_or known (position_at shape row slot') false ≡ false = read.unread slot' (omega (arith, same)) (omega (arith, same, in_slots)) in
          absurd (false≢true (sym unknown ∙ known')))
          (λ (apart : slot' ≢ slot).
          let within : slot' < shape.slots = omega (arith, under, in_slots) in
          let less : slot' < slot = omega (arith, under, apart) in
          one.others (position_at shape row slot') (positions_apart shape row slot slot' in_slots within apart)
          ∙ read.gives device tell slot' less known')
          (cases_eq slot' slot);
      is_there = λ slot' under.
          ⊎_elim
          (λ (same : slot' ≡ slot).
          read.unread slot' (omega (arith, same)) (omega (arith, same, in_slots))
          ∙ one.is_there ∙ read.only_read.there (number slot) ∙ ap (λ s. is_some (old (number s))) (sym same))
          (λ (apart : slot' ≢ slot). read.is_there slot' (omega (arith, under, apart)))
          (cases_eq slot' slot);
    }

pub slots_read_next : (shape : Shape) (old now next : Parts) (row slot : ℕ) (known : List Bool) (there : Bool) (before after : List Block)
    → slot < shape.slots → shape.slots ≤ 32 → SlotsRead shape old now row slot known before → SlotRead shape now next row slot there before after
    → SlotsRead shape old next row (slot + 1) (marked known (position_at shape row slot) there) after
slots_read_next shape old now next row slot known true before after in_slots few read one = slots_read_there shape old now next row slot known before after in_slots few read one
slots_read_next shape old now next row slot known false before after in_slots few read one = slots_read_absent shape old now next row slot known before after in_slots read one

-- all slots
pub row_read : (shape : Shape) (old now : Parts) (row : ℕ) (known : List Bool) (blocks : List Block) → SlotsRead shape old now row shape.slots known blocks → RowRead shape old now row known blocks
row_read shape old now row known blocks read = record {
  only_read = read.only_read;
  gives = λ device tell position within is.
      let back : position_at shape row (slot_at shape row position) ≡ position = position_at-slot_at shape row position within in
      subst (λ (p : ℕ). block_at blocks p ≡ device (slot_at shape row position) row) back
      (read.gives device tell (slot_at shape row position) (slot_at-lt shape row position (omega (arith, within))) (subst (λ (p : ℕ). IsKnown known p) (sym back) is));
  is_there = λ position within.
      let back : position_at shape row (slot_at shape row position) ≡ position = position_at-slot_at shape row position within in
      subst (λ (p : ℕ). get_or known p false ≡ is_some (old (part_number shape (shard_of shape row) (slot_at shape row position)))) back
      (read.is_there (slot_at shape row position) (slot_at-lt shape row position (omega (arith, within))));
}

-- a fault of a read is that of a part which was there at first
pub read_fails_since : (shape : Shape) (old now : Parts) (row : ℕ) (fault : SlotFault) → OnlyRead old now → ReadFails shape now row fault → ReadFails shape old row fault
read_fails_since shape old now row fault read fails = record {
  within = fails.within;
  is_there = sym (read.there (part_number shape (shard_of shape row) fault.slot)) ∙ fails.is_there;
  of_read = fails.of_read;
}

-- the whole row, of parts that are all there
pub whole_row : (shape : Shape) (old now : Parts) (row : ℕ) (known : List Bool) (blocks : List Block) → length blocks ≡ shape.slots
    → AreThere shape old row → RowRead shape old now row known blocks → (device : Devices) → AllTell shape old device → IsRow shape device row blocks
whole_row shape old now row known blocks count there read device tell = record {
  count = count;
  each = λ position within.
      read.gives device tell position within
      (read.is_there position within ∙ there (slot_at shape row position) (slot_at-lt shape row position (omega (arith, within))));
}
