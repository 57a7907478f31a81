use Rattle.std.proofs.Common.{◌∙◌, length, refl, rules, subst, sym}
use Rattle.r6_array.specs.Effects.{HandsReply}
use Rattle.r6_array_c.proofs.Lengths.{still, hands_reply, hands_no_reply, reply_fits}
use Rattle.r6_array_c.proofs.host.Host.next_reply.Goals as goal

pub invariant_of-self : goal.invariant_of-self
invariant_of-self c =
    let was = c.args.self.now in
    let hands : HandsReply was.array c.in-Some.name c.in-Some.reply c.next_reply.new.self = search rules in record {
      fits = λ n s has.
          still was.array c.next_reply.new.self (length was.blocks.stage) was.fits (hands_reply _ _ _ _ hands) n s has
          ∙ sym c.tell.ensures.lengths.stage;
    }

pub invariant_of-self-in-None : goal.invariant_of-self-in-None
invariant_of-self-in-None c =
    let was = c.args.self.now in record {
      fits = still was.array c.next_reply.new.self (length was.blocks.stage) was.fits (hands_no_reply _ _ c.in-None.ensures);
    }

pub returns-in-Some-clause-replied : goal.returns-in-Some-clause-replied
returns-in-Some-clause-replied c =
    let was = c.args.self.now in
    let hands : HandsReply was.array c.in-Some.name c.in-Some.reply c.next_reply.new.self = search rules in record {
      replied = λ _. (
        c.in-Some.reply,
        subst (λ name. HandsReply was.array name c.in-Some.reply c.next_reply.new.self) (sym c.tell.ensures.told.0) hands,
        c.tell.ensures.told.1,
        c.tell.ensures.block (reply_fits was.array c.next_reply.new.self c.in-Some.name c.in-Some.reply (length was.blocks.stage) hands was.fits),
      );
      none = λ ne. absurd (ne refl);
      lengths = c.tell.ensures.lengths;
      asked = refl;
      gathered = refl;
    }
