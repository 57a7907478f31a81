-- There are courses: what the laws say of every course, they say of something.
use Rattle.std.specs.Prelude.{◌≡◌, ◌≢◌, ℕ, ◌<◌, [], ◌∷◌, ◌++◌, Option, Some}
use Rattle.r6_dev.specs.History.{Telling, Blocks}
use Rattle.r6_health.specs.Histories.{Name}
use Rattle.r6_kernels.specs.Blocks.{IsBlock}
use Rattle.r6_layout.specs.PlainArray.{Block}
use Rattle.r6_world.specs.PlainArray.{Array, Data}
use Rattle.r6_world.specs.Layouts.{IsRowOf, IsArray}
use Rattle.r6_world.specs.ShardStates.{Paired, InSyncFor, IsLive}
use Rattle.r6_world.specs.Worlds.{Devices}
use Rattle.r6_world.specs.Registers.{Snapshot}
use Rattle.r6_world.specs.Claims.{IsUnwritten}
use Rattle.r6_world.specs.Witness.{small, CourseFrom}
use Rattle.r6_course.specs.Courses.{Start, IsLawful, first_world, Replied, Stand, Follows, first_stand}

-- parts of all devices that there are, or will be
abbrev pub all_tell : Devices → ℕ → ℕ → Option Telling
all_tell device slot generation = Some (Some (device slot generation))

-- some row of a live shard is not written, and a part in sync for it tells its blocks: the premises of PartsHold
pub record IsHeld (s : Start) (at : Stand) : Type 0 where
  pub row : ℕ
  pub slot : ℕ
  pub generation : ℕ
  pub inside : slot < s.layout.slots
  pub of_shard : IsRowOf s.layout s.number row
  pub live : IsLive s.layout at.shard
  pub unwritten : IsUnwritten at.shard row
  pub in_sync : InSyncFor (at.shard.slot slot) row generation
  pub blocks : Blocks
  pub told : at.part slot generation ≡ Some (Some blocks)

-- where each course begins the premises are met, whatever the name of the shard's pass
abbrev pub BeginsHeld : Type 0
BeginsHeld = (s : Start) (by : Name) → IsLawful s → IsHeld s (first_stand s by (all_tell s.device))

-- a start on the smallest array
abbrev pub small_start : Snapshot → Devices → Array → Start
small_start register device array =
    record { layout = small; number = 0; register = register; device = device; array = array }

-- the course of r6_world (a write, a loss, a read from the other devices, an attach, a rebuild, and a read of the new
-- device) leads to a stand with a part of the new device, and on to one in which the reply of that read was taken: the
-- block that was written
pub record AnswersFrom (s : Start) (new_data : Block) (course : CourseFrom (first_world s) new_data) : Type 0 where
  pub before : Stand
  pub run : Follows s before
  pub moments : run.reached.moments
      ≡ course.write ++ course.loss ++ course.degraded_read ++ course.attach ++ course.rebuild ++ course.read
  pub blocks : Blocks
  pub told : before.part 1 1 ≡ Some (Some blocks)
  pub behind : Stand
  pub follows : Follows s behind
  pub read : behind.history ≡ before.history ++ Replied 2 (Data new_data) ∷ []

-- a slot of a live shard has two devices, some row is not written, and the part of each tells its blocks: of both
-- devices the premises of PartsHold
pub record AreBothHeld (s : Start) (at : Stand) : Type 0 where
  pub row : ℕ
  pub slot : ℕ
  pub old : ℕ
  pub new : ℕ
  pub apart : old ≢ new
  pub inside : slot < s.layout.slots
  pub of_shard : IsRowOf s.layout s.number row
  pub live : IsLive s.layout at.shard
  pub unwritten : IsUnwritten at.shard row
  pub paired : at.shard.slot slot ≡ Paired old new
  pub blocks : Blocks
  pub told : at.part slot old ≡ Some (Some blocks)
  pub new_blocks : Blocks
  pub new_told : at.part slot new ≡ Some (Some new_blocks)

-- on the smallest array, whatever its blocks are, a course leads there: a device is replaced while it is in service
abbrev pub ReplacesHeld : Type 0
ReplacesHeld =
    (array : Array) → IsArray small array
    → (s : Start) × IsLawful s × (s.array ≡ array) × (at : Stand) × Follows s at × AreBothHeld s at

-- The premises of the laws can be met: from every lawful start; where a slot has two devices; and on the smallest
-- array, whatever its blocks are and whatever is written
abbrev pub WitnessLaw : Type 0
WitnessLaw =
    BeginsHeld × ReplacesHeld
    × ((array : Array) (new_data : Block) → IsArray small array → IsBlock small.size new_data
    → (r : Snapshot) × (device : Devices) × IsLawful (small_start r device array)
    × (course : CourseFrom (first_world (small_start r device array)) new_data)
    × AnswersFrom (small_start r device array) new_data course)
