use Rattle.std.proofs.Common.{◌≡◌, ◌∙◌, Bor, Option, Some, None, refl, sym, ap}
use Rattle.std.specs.Prelude.{option_copied}
use Rattle.r6_frames.specs.declared.command.Outstanding.{Outstanding}
use Rattle.r6_frames.proofs.frames.Frames.command.Goals as goal

there : (found : Option (Bor Outstanding)) (command : Outstanding) → option_copied found ≡ Some command
    → ((one : Bor Outstanding) → found ≡ Some one → ⊥) → ⊥
there None command is none = absurd (cc)
there (Some one) command is none = none one refl

pub unreachable-requires : goal.unreachable-requires
unreachable-requires c = there c.get.result (rw (← c.self.view_is) at c.requires).0 (c.get.ensures ∙ (rw (← c.self.view_is) at c.requires).1) c.in_default.not-Some

pub returns-clause-sound : goal.returns-clause-sound
returns-clause-sound c = rw (← c.self.view_is) c.self.invariant.0

pub returns-clause-command : goal.returns-clause-command
returns-clause-command c =
    rw (← c.self.view_is) (sym c.get.ensures ∙ ap option_copied c.in-Some.is)

pub returns-clause-slot : goal.returns-clause-slot
returns-clause-slot c =
    rw (← c.self.view_is) (c.self.invariant.0.commands.lawful c.args.token c.in-Some.found.now (sym c.get.ensures ∙ ap option_copied c.in-Some.is)).0
