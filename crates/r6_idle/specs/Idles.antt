-- A thread that looks for work, and sleeps where it finds none.
use Rattle.std.specs.Prelude.{◌≡◌, ℕ, ◌+◌}
use Rattle.crossbeam_utils.specs.Token.{parker_view}
use Rattle.r6_idle.specs.declared.idle.Idle.{Idle}
use Rattle.r6_idle.specs.declared.waker.Waker.{Waker}
use Rattle.r6_idle.specs.Wakers.{parker_of}

-- looks in vain, one after the other
abbrev pub looks_of : Idle → ℕ
looks_of idle = idle.looks

-- sleeps that ended, each by a wake
abbrev pub sleeps_of : Idle → ℕ
sleeps_of idle = (parker_view idle.pass).taken

abbrev pub IsWakerOf : Idle → Waker → Type 0
IsWakerOf idle waker = parker_of waker ≡ parker_of idle.waker

-- the same wakers wake both
abbrev pub HasSameWakers : Idle → Idle → Type 0
HasSameWakers idle next = parker_of next.waker ≡ parker_of idle.waker

abbrev pub IsNew : Idle → Type 0
IsNew idle = (looks_of idle ≡ 0) × (sleeps_of idle ≡ 0)

-- one more look was in vain
abbrev pub HasYielded : Idle → Idle → Type 0
HasYielded idle next = (looks_of next ≡ looks_of idle + 1) × (sleeps_of next ≡ sleeps_of idle) × HasSameWakers idle next

-- one more sleep ended, and the looks count anew
abbrev pub HasSlept : Idle → Idle → Type 0
HasSlept idle next = (looks_of next ≡ 0) × (sleeps_of next ≡ sleeps_of idle + 1) × HasSameWakers idle next

-- the looks count anew
abbrev pub HasFound : Idle → Idle → Type 0
HasFound idle next = (looks_of next ≡ 0) × (sleeps_of next ≡ sleeps_of idle) × HasSameWakers idle next
