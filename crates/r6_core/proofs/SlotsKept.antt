-- Holds that put commands out, and rows that are held anew, leave the slots as they are.
use Rattle.std.proofs.Common.{◌+◌, ◌≡◌, ℕ, List, [], ◌∷◌, refl, ap, ◌∙◌}
use Rattle.r6_world.specs.Layouts.{Layout}
use Rattle.r6_world.specs.Tables.{count_below}
use Rattle.r6_world.specs.ShardStates.{Shard, is_away}
use Rattle.r6_world.specs.Changes.{Change, Ask, Ask_again, Copy, Fix, Prepare, Send, after}
use Rattle.r6_world.specs.Steps.{Leads}
use Rattle.r6_world.specs.Geometries.{layout_of}
use Rattle.r6_frames.specs.declared.frames.Frames.{Frames}
use Rattle.r6_frames.specs.Slots.{states_of, count_out}
use Rattle.r6_frames.specs.Views.{Rest, shard_with}
use Rattle.r6_frames.specs.Calls.{Drives, PutsOut}
use Rattle.r6_core.specs.Limits.{is_missing, is_settled, is_not_doubled, most_calls}

slots_after-put : (l : Layout) (s : Shard) (change : Change) → PutsOut change → (after l s change).slot ≡ s.slot
slots_after-put l s (Ask frame h slot generation) puts = refl
slots_after-put l s (Prepare frame h event) puts = refl
slots_after-put l s (Send frame h slot generation block) puts = refl
slots_after-put l s (Copy frame h slot generation block) puts = refl
slots_after-put l s (Fix frame h slot generation block) puts = refl
slots_after-put l s (Ask_again frame h slot generation) puts = refl
slots_after-put l s change puts = absurd puts

slots_led : (l : Layout) (n : ℕ) (old new : Shard) (changes : List Change) → Leads l n PutsOut old changes new → new.slot ≡ old.slot
slots_led l n old new [] leads = ap (λ (s : Shard). s.slot) leads
slots_led l n old new (change ∷ changes) leads = slots_led l n (after l old change) new changes leads.2 ∙ slots_after-put l old change leads.0

-- the same slots are out
pub out_same : (old new : Frames) → states_of new.slots ≡ states_of old.slots → new.geometry ≡ old.geometry
    → count_out new.slots new.geometry.slots ≡ count_out old.slots old.geometry.slots
out_same old new slots geometry = λ i. count_below (λ slot. is_away (slots i slot)) (geometry i).slots

pub calls_same : (old new : Frames) → states_of new.slots ≡ states_of old.slots → new.geometry ≡ old.geometry → most_calls new ≡ most_calls old
calls_same old new slots geometry = λ i.
    count_below (λ slot. is_missing (slots i slot)) (geometry i).slots + count_below (λ slot. is_settled (slots i slot)) (geometry i).slots
    + count_below (λ slot. is_not_doubled (slots i slot)) (geometry i).slots

pub drives_keep : (rest : Rest) (old new : Frames) → Drives old new → states_of new.slots ≡ states_of old.slots
drives_keep rest old new drives = let through = drives.2 rest in slots_led (layout_of old.geometry) old.shard (shard_with rest old) (shard_with rest new) through.0 through.1
