-- How many commands a hold may still put out, by its rules alone.
use Rattle.std.specs.Prelude.{ℕ, zero, suc, ◌+◌, ◌*◌, List, [], ◌∷◌}
use Rattle.r6_stripe.specs.Holds.{Standing, Reading, Writing, Cell}
use Rattle.r6_stripe.specs.Holds.Standing.{InSync, Target, Out}
use Rattle.r6_stripe.specs.Holds.Reading.{Unread, Recalled, Asked, Unreadable, Fixing, Fixed, AskedAgain, Known, Replaced}
use Rattle.r6_stripe.specs.Holds.Writing.{Unwritten, Ready, Sent, Confirmed}

-- ---- what is still to be put out at a position, fixes aside

abbrev pub read_left : Reading → ℕ
read_left Unread = 1
read_left Recalled = 1
read_left Asked = 0
read_left Unreadable = 0
read_left Fixing = 1
read_left Fixed = 1
read_left AskedAgain = 0
read_left (Known block) = 0
read_left Replaced = 0

abbrev pub write_left : Writing → ℕ
write_left Unwritten = 1
write_left (Ready block) = 1
write_left Sent = 0
write_left Confirmed = 0

-- only a position in sync is read and fixed
abbrev pub if_in_sync : Standing → ℕ → ℕ
if_in_sync InSync n = n
if_in_sync Target n = 0
if_in_sync Out n = 0

-- a second device is written too
abbrev pub copy_left : Standing → Writing → ℕ
copy_left InSync writing = write_left writing
copy_left Target writing = write_left writing
copy_left Out writing = 0

abbrev pub left_at : Cell → ℕ
left_at cell =
    if_in_sync cell.standing (read_left cell.reading)
    + (write_left cell.writing + copy_left cell.second cell.copying)

-- whether a fix may still come, with the second read that follows it
abbrev pub fix_left : Reading → ℕ
fix_left Unread = 1
fix_left Recalled = 1
fix_left Asked = 1
fix_left Unreadable = 1
fix_left Fixing = 0
fix_left Fixed = 0
fix_left AskedAgain = 0
fix_left (Known block) = 0
fix_left Replaced = 0

abbrev pub fix_at : Cell → ℕ
fix_at cell = if_in_sync cell.standing (fix_left cell.reading)

-- ---- in a row

abbrev pub total_of : (Cell → ℕ) → List Cell → ℕ
total_of f [] = 0
total_of f (cell ∷ cells) = f cell + total_of f cells

-- at most two positions are fixed, since as many others are known as there are data
abbrev pub two_of : ℕ → ℕ
two_of zero = 0
two_of (suc zero) = 1
two_of (suc (suc n)) = 2

abbrev pub to_come : List Cell → ℕ
to_come cells = total_of left_at cells + 2 * two_of (total_of fix_at cells)
