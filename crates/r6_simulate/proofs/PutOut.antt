-- One more reply or command that a shard puts out.
use Rattle.std.proofs.Common.{◌≡◌, ℕ, List, [], ◌∷◌, ◌++◌, cond, map, nat_eq, Option, Some, refl, sym, ap, subst, ◌∙◌}
use Rattle.std.specs.List.{flat_map}
use Rattle.std.specs.Map.{update, update_all}
use Rattle.std.proofs.lemmas.List.{flat_map_more, map-append}
use Rattle.r6_core.specs.Effects.{HandsCommand, HandsReply}
use Rattle.r6_core.specs.Shards.{CoreView}
use Rattle.r6_core.specs.declared.Command.{Command}
use Rattle.r6_world.specs.declared.values.OpId.{OpId}
use Rattle.r6_world.specs.declared.values.Reply.{Reply}
use Rattle.r6_simulate.specs.declared.shard.InFlight.{InFlight}
use Rattle.r6_simulate.specs.declared.shard.Shard.{Shard}
use Rattle.r6_simulate.specs.AtShards.{KeepsFlight, KeepsPlace, HandsReplies, HandsCommands, TakesReplies, TakesCommands, Puts, in_flight_of, taken}
use Rattle.r6_simulate.specs.Lines.{reply_text, command_text}

one_more_reply : (old middle new : CoreView) (replies : List (OpId × Reply)) (r : OpId × Reply) → HandsReplies old replies middle → HandsReply middle (r.0).0 r.1 new
    → HandsReplies old (replies ++ r ∷ []) new
one_more_reply old middle new [] r handed step = (new, subst (λ (core : CoreView). HandsReply core (r.0).0 r.1 new) handed step, refl)
one_more_reply old middle new (q ∷ replies) r handed step = (handed.0, handed.1, one_more_reply handed.0 middle new replies r handed.2 step)

one_more_command : (old middle new : CoreView) (commands : List Command) (c : Command) → HandsCommands old commands middle → HandsCommand middle c new
    → HandsCommands old (commands ++ c ∷ []) new
one_more_command old middle new [] c handed step = (new, subst (λ (core : CoreView). HandsCommand core c new) handed step, refl)
one_more_command old middle new (d ∷ commands) c handed step = (handed.0, handed.1, one_more_command handed.0 middle new commands c handed.2 step)

-- a table in which pairs were put in turn, with one more
one_more_update : (table : ℕ → Option InFlight) (pairs : List (ℕ × InFlight)) (p : ℕ × InFlight) (token : ℕ)
    → update nat_eq (update_all nat_eq table pairs) p.0 (Some p.1) token ≡ update_all nat_eq table (pairs ++ p ∷ []) token
one_more_update table [] p token = refl
one_more_update table (first ∷ pairs) p token = one_more_update (update nat_eq table first.0 (Some first.1)) pairs p token

-- what was printed, with one more text
printed_more : {A : Type 0} (text_of : A → List ℕ) (items : List A) (item : A) (text before after : List ℕ)
    → before ≡ text ++ flat_map text_of items → after ≡ before ++ text_of item
    → after ≡ text ++ flat_map text_of (items ++ item ∷ [])
printed_more text_of items item text before after was now =
    now ∙ ap (λ t. t ++ text_of item) was ∙ flat_map_more text_of text items item

pub puts_reply : (old middle new : Shard) (text before after : List ℕ) (r : OpId × Reply) → TakesReplies old text middle before
    → HandsReply middle.core (r.0).0 r.1 new.core → KeepsFlight middle new → after ≡ before ++ reply_text middle.number (r.0).0 r.1
    → TakesReplies old text new after
puts_reply old middle new text before after r puts step kept printed =
    record {
      replies = puts.replies ++ r ∷ [];
      handed = one_more_reply old.core middle.core new.core puts.replies r puts.handed step;
      printed = printed_more (λ (q : OpId × Reply). reply_text old.number (q.0).0 q.1) puts.replies r text before after puts.printed
          (printed ∙ ap (λ n. before ++ reply_text n (r.0).0 r.1) puts.kept.0.0);
      kept = ((kept.0.0 ∙ puts.kept.0.0, kept.0.1 ∙ puts.kept.0.1), kept.1 ∙ puts.kept.1);
    }

pub puts_command : (old middle new : Shard) (text before after : List ℕ) (c : Command) → TakesCommands old text middle before
    → HandsCommand middle.core c new.core → KeepsPlace middle new → Puts middle c.token (Some (taken c).1) new
    → after ≡ before ++ command_text middle.number c → TakesCommands old text new after
puts_command old middle new text before after c puts step place keeps printed =
    record {
      commands = puts.commands ++ c ∷ [];
      handed = one_more_command old.core middle.core new.core puts.commands c puts.handed step;
      printed = printed_more (command_text old.number) puts.commands c text before after puts.printed
          (printed ∙ ap (λ n. before ++ command_text n c) puts.place.0);
      place = (place.0 ∙ puts.place.0, place.1 ∙ puts.place.1);
      flight = λ (token : ℕ). keeps.0 token ∙ ap (cond (nat_eq c.token token) (Some (taken c).1)) (puts.flight token)
          ∙ one_more_update (in_flight_of old) (map taken puts.commands) (taken c) token
          ∙ ap (λ (flights : List (ℕ × InFlight)). update_all nat_eq (in_flight_of old) flights token) (sym (map-append taken puts.commands (c ∷ [])));
    }
