use Rattle.std.proofs.Common.{ap, ◌∙◌}
use Rattle.r6_array_c.proofs.made.handle.Goals as goal

pub returns-in-Ok-clause-made : goal.returns-in-Ok-clause-made
returns-in-Ok-clause-made c =
    (c.in_ok-host.host, ap (λ h. h.host) c.in-Ok.ensures.ok, c.in_ok-host.ensures.made, ap (λ h. h.mail.stage) c.in-Ok.ensures.ok ∙ (c.new-mail.ensures ∙ c.stage_at.ensures))
