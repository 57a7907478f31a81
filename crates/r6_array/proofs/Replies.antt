-- The looks of the shards that have no reply, and the reply that is taken then, as one run.
use Rattle.std.proofs.Common.{◌≡◌, ℕ, List, [], ◌∷◌, ◌++◌, Bool, refl, sym, ap, subst, ◌∙◌}
use Rattle.std.specs.List.{AllByRecursion}
use Rattle.std.proofs.lemmas.List.{append_assoc}
use Rattle.r6_world.specs.Steps as steps
use Rattle.r6_world.specs.Values.{reply_of}
use Rattle.r6_world.specs.declared.values.Reply.{Reply}
use Rattle.r6_frames.proofs.Held.{all_append}
use Rattle.r6_core.specs.Runs as runs
use Rattle.r6_core.specs.Runs.{Happening}
use Rattle.r6_array.specs.Arrays.{ArrayView}
use Rattle.r6_array.specs.Runs.{GoesOn}
use Rattle.r6_array.specs.Effects.{HandsReply, HandsReplyOf, IsLook, LooksOf, LooksOfAll, PassesOver}
use Rattle.r6_array.proofs.Going.{goes-then, goes-nowhere}

-- what the looks of some shards are, with what they leave alone
pub record Looked (old new : ArrayView) : Type 0 where
  pub looks : List Happening
  pub looked : LooksOfAll old looks new
  pub shape : new.shape ≡ old.shape
  pub register : new.register ≡ old.register

pub none_looked : (a : ArrayView) → Looked a a
none_looked a =
    record { looks = []; looked = record { are_looks = record {}; run = goes-nowhere a }; shape = refl; register = refl }

-- one shard more looks
abbrev pub looks_on : (a b c : ArrayView) (n : ℕ) (settled : Bool) → Looked a b → LooksOf b n settled c → Looked a c
looks_on a b c n settled so_far more = record {
  looks = so_far.looks ++ more.looks;
  looked = record {
    are_looks = all_append (IsLook a.register) so_far.looks more.looks so_far.looked.are_looks
        (subst (λ register. AllByRecursion (IsLook register) more.looks) so_far.register more.are_looks);
    run = goes-then a b c so_far.looks more.looks so_far.shape so_far.looked.run more.run;
  };
  shape = ap (λ (v : ArrayView). v.shape) more.new_is ∙ so_far.shape;
  register = ap (λ (v : ArrayView). v.register) more.new_is ∙ so_far.register;
}

-- and hands out its reply
pub hands_reply : (a b c : ArrayView) (n name : ℕ) (reply : Reply) → PassesOver a n b → Looked a b
    → HandsReplyOf b n name reply c → HandsReply a name reply c
hands_reply a b c n name reply passes so_far hands =
    let taken = runs.Call n (steps.Take_reply hands.taken.id (reply_of reply)) hands.now.core ∷ [] in
    let whole = looks_on a b hands.mid n _ so_far hands.looks in
    record {
      shard = n;
      mid = b;
      passes = passes;
      hands = hands;
      looks = whole.looks;
      looked = whole.looked;
      run = subst (λ all. GoesOn a all c) (sym (append_assoc so_far.looks hands.looks.looks taken))
          (goes-then a b c so_far.looks (hands.looks.looks ++ taken) so_far.shape so_far.looked.run hands.run);
    }
