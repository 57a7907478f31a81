-- What a call of a shard or of a register is, by the number that stands in its mail.
use Rattle.std.specs.Prelude.{◌≡◌, ◌≢◌, ◌==◌, ℕ, Option, MatchOption, Some, None}
use Rattle.r6_array.specs.declared.register.SharedRegister.{SharedRegister}
use Rattle.r6_array_c.specs.Gathered.{ShardGathers, ShardHandsIn, ShardReleases}
use Rattle.r6_array_c.specs.HostedShard.{ShardSubmitsBy, ShardHandsOutTo, ShardDeliversFrom, ShardRepliesBy, ShardAsksBy, ShardAgreesBy, ShardLooksBy, ShardTurnsBy, RegisterFailsBy, RegisterLosesBy, RegisterAttachesBy, RegisterReplacesBy}
use Rattle.r6_array_c.specs.Making.{IsMadeShard, IsUnmadeShard}
use Rattle.r6_array_c.specs.Numbers.{no_such, still_in_use}
use Rattle.r6_array_c.specs.Orders.{IsClosed}
use Rattle.r6_array_c.specs.Questions.{AnswersOfShard, KeepsAsked, TellsSlot}
use Rattle.r6_array_c.specs.declared.handle.Mail.{Mail}
use Rattle.r6_array_c.specs.declared.handle.Order.{Order}
use Rattle.r6_array_c.specs.declared.handle.RegisterHandle.{RegisterHandle}
use Rattle.r6_array_c.specs.declared.handle.ShardHandle.{ShardHandle}
use Rattle.r6_array_c.specs.declared.shard_host.ShardHost.{ShardHost}

-- the number in the mail is of none of the calls that change a shard: it is a question, or no call
pub record IsNoShardChange (verb : ℕ) : Type 0 where
  pub submit : verb ≢ 1
  pub reply : verb ≢ 4
  pub change : verb ≢ 5
  pub turn : verb ≢ 9
  pub gather : verb ≢ 21
  pub submit_all : verb ≢ 22
  pub release : verb ≢ 23

-- the call that stands in the mail is made of the shard
pub record MakesOfShard (asked : Mail) (old : ShardHost) (answer : ℕ) (mail : Mail) (new : ShardHost) : Type 0 where
  pub submit : asked.verb ≡ 1
      → ShardSubmitsBy old asked.block_asked (asked.task == 1) asked.name_asked answer new
  pub gather : asked.verb ≡ 21
      → ShardGathers old asked.block_asked (asked.task == 1) asked.name_asked answer new
  pub submit_all : asked.verb ≡ 22 → ShardHandsIn old answer new mail
  pub release : asked.verb ≡ 23 → ShardReleases old answer new
  pub reply : asked.verb ≡ 4 → ShardRepliesBy old answer new mail
  pub change : asked.verb ≡ 5 → ShardAsksBy old answer new mail
  pub turn : asked.verb ≡ 9 → ShardTurnsBy old asked.task answer new
  pub question : IsNoShardChange asked.verb → AnswersOfShard asked old.shard answer mail × (new ≡ old)
  pub kept : KeepsAsked asked mail
  pub stage : mail.stage ≡ new.blocks.stage_at

-- a command is handed out to an order, or the order's is delivered
pub record MakesOrderOfShard (asked : Mail) (old : ShardHost) (was : Order) (answer : ℕ) (new : ShardHost) (order : Order)
    : Type 0 where
  pub command : asked.verb ≡ 2 → ShardHandsOutTo old was answer new order
  pub deliver : asked.verb ≡ 3 → ShardDeliversFrom old was answer new order
  pub other : asked.verb ≢ 2 → asked.verb ≢ 3 → (answer ≡ no_such) × (new ≡ old) × (order ≡ was)

-- the shard is closed; or the call in the mail is made of it
pub record MakesOfShardAt (asked : ShardHandle) (answer : ℕ) (handle : ShardHandle) : Type 0 where
  pub closes : asked.mail.verb ≡ 17 → (answer ≡ 0) × (handle.host ≡ None)
  pub makes : asked.mail.verb ≢ 17 → MatchOption asked.host ((answer ≡ no_such) × (handle.host ≡ None))
      (λ old. MatchOption handle.host ⊥ (MakesOfShard asked.mail old answer handle.mail))

-- the order is closed, and the shard isn't asked; or the call in the mail is made of both
pub record MakesOrderOfShardAt (asked : ShardHandle) (was : Order) (answer : ℕ) (handle : ShardHandle) (order : Order)
    : Type 0 where
  pub closes : asked.mail.verb ≡ 17 → (answer ≡ 0) × (handle ≡ asked) × IsClosed order
  pub makes : asked.mail.verb ≢ 17 → MatchOption asked.host
      ((answer ≡ no_such) × (handle.host ≡ None) × (order ≡ was))
      (λ old. MatchOption handle.host ⊥ (λ new. MakesOrderOfShard asked.mail old was answer new order))
  pub mail : handle.mail ≡ asked.mail

-- a shard that isn't open is opened at a register, as the shard of this number
pub record Opens (number window : ℕ) (was : Option ShardHost) (register : SharedRegister) (answer : ℕ)
    (now : Option ShardHost) : Type 0 where
  pub opened : answer ≡ 0 → (was ≡ None) × (host : ShardHost) × (now ≡ Some host)
      × IsMadeShard register number window host
  pub refused : answer ≢ 0 → was ≡ None → IsUnmadeShard register number window answer × (now ≡ None)
  pub is_open : was ≢ None → (answer ≡ still_in_use) × (now ≡ was)

-- a change is made at the register, or the shard looks at it
pub record Meets (asked : Mail) (old : ShardHost) (was : SharedRegister) (answer : ℕ) (new : ShardHost)
    (register : SharedRegister) : Type 0 where
  pub agree : asked.verb ≡ 6 → ShardAgreesBy old was answer new register
  pub look : asked.verb ≡ 19 → ShardLooksBy old was answer new
  pub other : asked.verb ≢ 6 → asked.verb ≢ 19 → (answer ≡ no_such) × (new ≡ old)

-- the call that stands in the mail of the shard is made at the register
pub record MeetsAt (asked : ShardHandle) (was : RegisterHandle) (answer : ℕ) (handle : ShardHandle)
    (register : RegisterHandle) : Type 0 where
  pub opens : asked.mail.verb ≡ 18
      → Opens asked.mail.shard_asked was.window asked.host was.register answer handle.host
  pub meets : asked.mail.verb ≢ 18 → MatchOption asked.host ((answer ≡ no_such) × (handle.host ≡ None))
      (λ old. MatchOption handle.host ⊥ (λ new. Meets asked.mail old was.register answer new register.register))
  pub other : asked.mail.verb ≢ 6 → register.register ≡ was.register
  pub mail : handle.mail ≡ asked.mail
  pub window : register.window ≡ was.window

-- the call that stands in the mail is made of the register
pub record MakesOfRegister (asked : RegisterHandle) (answer : ℕ) (handle : RegisterHandle) : Type 0 where
  pub fail : asked.mail.verb ≡ 7 → RegisterFailsBy asked.register asked.mail.slot_asked answer handle.register
  pub lose : asked.mail.verb ≡ 24
      → RegisterLosesBy asked.register asked.mail.slot_asked asked.mail.task answer handle.register handle.mail
  pub attach : asked.mail.verb ≡ 8
      → RegisterAttachesBy asked.register asked.mail.slot_asked answer handle.register handle.mail
  pub replace : asked.mail.verb ≡ 20
      → RegisterReplacesBy asked.register asked.mail.slot_asked answer handle.register handle.mail
  pub slot : asked.mail.verb ≡ 10
      → TellsSlot asked.register.geometry.slots asked.register.snapshot asked.mail.slot_asked answer handle.mail
  pub other : asked.mail.verb ≢ 7 → asked.mail.verb ≢ 8 → asked.mail.verb ≢ 20 → asked.mail.verb ≢ 24
      → handle.register ≡ asked.register
  pub unknown : asked.mail.verb ≢ 7 → asked.mail.verb ≢ 8 → asked.mail.verb ≢ 20 → asked.mail.verb ≢ 24
      → asked.mail.verb ≢ 10 → answer ≡ no_such
  pub kept : KeepsAsked asked.mail handle.mail
  pub window : handle.window ≡ asked.window
