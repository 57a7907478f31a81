-- What a call of a handle is, by the number that stands in its mail.
use Rattle.std.specs.Prelude.{◌≡◌, ◌≢◌, ◌==◌, ℕ, None, MatchOption}
use Rattle.r6_array_c.specs.Gathered.{HostGathers, HostHandsIn, HostReleases}
use Rattle.r6_array_c.specs.Hosted.{SubmitsBy, HandsOutTo, DeliversFrom, RepliesBy, AsksBy, AgreesBy, FailsBy, LosesBy, AttachesBy, ReplacesBy, TurnsBy}
use Rattle.r6_array_c.specs.Numbers.{no_such}
use Rattle.r6_array_c.specs.Orders.{IsClosed}
use Rattle.r6_array_c.specs.Questions.{Answers, KeepsAsked}
use Rattle.r6_array_c.specs.declared.handle.Handle.{Handle}
use Rattle.r6_array_c.specs.declared.handle.Mail.{Mail}
use Rattle.r6_array_c.specs.declared.handle.Order.{Order}
use Rattle.r6_array_c.specs.declared.host.Host.{Host}

-- the number in the mail is of none of the calls that change an array: it is a question, or no call
pub record IsNoChange (verb : ℕ) : Type 0 where
  pub submit : verb ≢ 1
  pub reply : verb ≢ 4
  pub change : verb ≢ 5
  pub agree : verb ≢ 6
  pub fail : verb ≢ 7
  pub attach : verb ≢ 8
  pub turn : verb ≢ 9
  pub replace : verb ≢ 20
  pub gather : verb ≢ 21
  pub submit_all : verb ≢ 22
  pub release : verb ≢ 23
  pub lose : verb ≢ 24

-- the call that stands in the mail is made of the array
pub record Makes (asked : Mail) (old : Host) (answer : ℕ) (mail : Mail) (new : Host) : Type 0 where
  pub submit : asked.verb ≡ 1
      → SubmitsBy old asked.block_asked (asked.task == 1) asked.name_asked answer new
  pub gather : asked.verb ≡ 21
      → HostGathers old asked.block_asked (asked.task == 1) asked.name_asked answer new
  pub submit_all : asked.verb ≡ 22 → HostHandsIn old answer new mail
  pub release : asked.verb ≡ 23 → HostReleases old answer new
  pub reply : asked.verb ≡ 4 → RepliesBy old answer new mail
  pub change : asked.verb ≡ 5 → AsksBy old answer new mail
  pub agree : asked.verb ≡ 6 → AgreesBy old answer new
  pub fail : asked.verb ≡ 7 → FailsBy old asked.slot_asked answer new
  pub lose : asked.verb ≡ 24 → LosesBy old asked.slot_asked asked.task answer new mail
  pub attach : asked.verb ≡ 8 → AttachesBy old asked.slot_asked answer new mail
  pub replace : asked.verb ≡ 20 → ReplacesBy old asked.slot_asked answer new mail
  pub turn : asked.verb ≡ 9 → TurnsBy old asked.shard_asked asked.task answer new
  pub question : IsNoChange asked.verb → Answers asked old.array answer mail × (new ≡ old)
  pub kept : KeepsAsked asked mail
  pub stage : mail.stage ≡ new.blocks.stage_at

-- a command is handed out to an order, or the order's is delivered
pub record MakesOrder (asked : Mail) (old : Host) (was : Order) (answer : ℕ) (new : Host) (order : Order) : Type 0 where
  pub command : asked.verb ≡ 2 → HandsOutTo old was answer new order
  pub deliver : asked.verb ≡ 3 → DeliversFrom old was answer new order
  pub other : asked.verb ≢ 2 → asked.verb ≢ 3 → (answer ≡ no_such) × (new ≡ old) × (order ≡ was)

-- ---- of a handle

-- the array is closed, and stays so; or the call in the mail is made of it
pub record MakesAt (asked : Handle) (answer : ℕ) (handle : Handle) : Type 0 where
  pub closes : asked.mail.verb ≡ 17 → (answer ≡ 0) × (handle.host ≡ None)
  pub makes : asked.mail.verb ≢ 17 → MatchOption asked.host ((answer ≡ no_such) × (handle.host ≡ None))
      (λ old. MatchOption handle.host ⊥ (Makes asked.mail old answer handle.mail))

-- the order is closed, and the array isn't asked; or the call in the mail is made of both
pub record MakesOrderAt (asked : Handle) (was : Order) (answer : ℕ) (handle : Handle) (order : Order) : Type 0 where
  pub closes : asked.mail.verb ≡ 17 → (answer ≡ 0) × (handle ≡ asked) × IsClosed order
  pub makes : asked.mail.verb ≢ 17 → MatchOption asked.host
      ((answer ≡ no_such) × (handle.host ≡ None) × (order ≡ was))
      (λ old. MatchOption handle.host ⊥ (λ new. MakesOrder asked.mail old was answer new order))
  pub mail : handle.mail ≡ asked.mail
