-- A device performs a command, or doesn't serve it.
use Rattle.std.proofs.Common.{◌≡◌, ◌∙◌, ◌↔◌, Result, Ok, Err, IfErr, OnErr, MatchResult, ap, is_ok, refl, subst, sym}
use Rattle.r6_dev.specs.Faults.{failed_read}
use Rattle.r6_dev.specs.History.{Answers, Fails, Reads, Writes}
use Rattle.r6_dev.specs.Memory.{Memory, told_by}
use Rattle.r6_dev.specs.declared.fault.Fault.{Fault}
use Rattle.r6_dev.specs.declared.fault.Fault.TheVariants.{Length}
use Rattle.r6_core.specs.declared.Command.{Command}
use Rattle.r6_core.specs.declared.CommandKind.TheVariants.{Read, Write}
use Rattle.r6_simulate.specs.Devices.{MayPerformOn, ServesCommand, entry_of}

pub read_done : {A : Type 0} (result : Result A Fault) (before after : Memory) (command done : Command) → command.kind ≡ Read
    → MatchResult result (λ _. Answers (told_by before) (Reads command.row done.buffer) (told_by after))
    (λ fault. Answers (told_by before) (failed_read command.row fault) (told_by after))
    → after ≡ before → OnErr result (done.buffer ≡ command.buffer)
    → ((result ≡ Err Length) ↔ ¬ ServesCommand before command) → IfErr result (λ fault. fault ≡ Length)
    → done ≡ record command { buffer = done.buffer } → MayPerformOn (is_ok result) before command after done
read_done (Ok unit) before after command done kind answers kept unread refused length_alone same = (
  subst (λ k. Answers (told_by before) (entry_of k command.row done.buffer) (told_by after)) (sym kind) answers,
  same,
  λ write. let other : Read ≡ Write = sym kind ∙ write in cc,
)
read_done (Err fault) before after command done kind answers kept unread refused length_alone same = (
  refused.0 (ap (λ f. Err f) length_alone),
  kept,
  same ∙ ap (λ buffer. record command { buffer = buffer }) unread,
)

pub write_done : {A : Type 0} (result : Result A Fault) (before after : Memory) (command : Command) → command.kind ≡ Write
    → MatchResult result (λ _. Answers (told_by before) (Writes command.row command.buffer) (told_by after))
    (λ _. Answers (told_by before) Fails (told_by after))
    → OnErr result (after ≡ before)
    → ((result ≡ Err Length) ↔ ¬ ServesCommand before command) → IfErr result (λ fault. fault ≡ Length)
    → MayPerformOn (is_ok result) before command after command
write_done (Ok unit) before after command kind answers unwritten refused length_alone = (
  subst (λ k. Answers (told_by before) (entry_of k command.row command.buffer) (told_by after)) (sym kind) answers,
  refl,
  λ write. refl,
)
write_done (Err fault) before after command kind answers unwritten refused length_alone =
    (refused.0 (ap (λ f. Err f) length_alone), unwritten, refl)
