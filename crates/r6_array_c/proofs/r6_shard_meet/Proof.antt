-- `r6_shard_meet` lends the shard and the register to `meet`, and hands both back.
use Rattle.std.proofs.Common.{ℕ, [], ◌∷◌, ◌++◌, refl, w32, MutBor}
use Rattle.std.proofs.raw_atomic.Walks.{proved}
use base.Fraction.{full_share}
use base.Logic.{id⊢, ex_i}
use base.Fml.{ftrue, flft, flent}
use mir.Syntax.{named}
use contract.Running.{tables}
use prog.Wp.{WpFn}
use types.Kit.{‵, raw, ◌⊛◌, some, later, prop, ◌$◌, ◌∵◌, !, qed, done, move, keep, drop, use1, use2, use3, split, join, fsplit, pick, await, regoal, suffices, group}
use types.SemTy.{Body}
use types.Logic.{sem}
use types.Tokens.{lft_new, lft_end}
use types.Run.{enter, of_opd, addr, stop, no_more, and_then, returns}
use types.ByLocal.{alloc_all, pass_all, free_all, look_at, get, through, sets, lands_as}
use denote.Builtin.{u32}
use denote.Exit.{yes}
use denote.Laws.{Is, shows}
use denote.Lend.{lends_ref, ref_back}
use denote.Memory.{mem}
use denote.Plain.{uint_Lawful}
use denote.RawPtr.{Ptr, RawPtr, block_ptr, lies_at, in_a_block, rawptr_vals, rawptr_Tells}
use denote.Ref.{MutRef, mut_vals}
use denote.Signature.{plain}
use denote.Steps.{nothing, peeks}
use denote.Triple.Call.{calls_at}
use denote.Triple.Clauses.{lasts}
use denote.Triple.Entry.{on_entry}
use denote.Triple.Spec.{triple_of}
use denote.Triple.Walked.{Stays, walk_of, stay_dropped, Goes-dropped, ends_at}
use denote.Triple.Table.{framed}
use Rattle.r6_array_c.specs.declared.handle.ShardHandle.{ShardHandle}
use Rattle.r6_array_c.specs.declared.handle.RegisterHandle.{RegisterHandle}
use Rattle.r6_array_c.specs.contracts.handle.ShardHandle.{the_row as R}
use Rattle.r6_array_c.specs.contracts.handle.RegisterHandle.{the_row as S}
use Rattle.r6_array_c.specs.contracts.r6_shard_meet as f
use Rattle.r6_array_c.proofs.r6_shard_meet.Statement.{statement}
use Rattle.r6_array_c.proofs.r6_shard_meet.Code as code
use Rattle.r6_array_c.specs.contracts.asked_shard.meet as g
use Rattle.r6_array_c.proofs.asked_shard.meet.Met.{met}

abbrev stayed : Stays f.ended.signature.params f.ended.kept
stayed = (stay_dropped _ yes, (stay_dropped _ yes, tt))

pub r6_shard_meet_spec : {M : Type 1} → statement M
r6_shard_meet_spec 𝓤 𝓛 𝓜 𝓡 wired =
    let c = f.clauses 𝓛 𝓜.mem 𝓡.returns in let W = walk_of 𝓛 f.ended stayed c in let 𝓣 = tables 𝓤 𝓛.H 𝓜 𝓡 𝓡.env in
    let goes = Goes-dropped 𝓛 0 (plain (λ _. RawPtr)) yes (λ κs x w. refl) in
    proved 𝓛 f.ended stayed c 𝓜 𝓡 (goes, (goes, tt))
    f.Key.name code.function (code.unfolded 𝓤 𝓛.H 𝓜 𝓡 wired)
    (λ κs. (rawptr_vals, (rawptr_vals, tt))) (λ κs. (rawptr_Tells, (rawptr_Tells, tt))) (λ κs qs bounds a n are.
    let y : Ptr → Ptr → W.Ghost = λ p p'. ((κs, qs, bounds, (p, (p', tt)), (rawptr_vals p, (rawptr_vals p', tt))), n) in
    qed 𝓛 (raw (on_entry 𝓛 f.signature κs qs a (y a.0 a.1.0).0.4) ∷ (‵ (lies_at R full_share a.0 n.0) ⊛ ‵ (lies_at S full_share a.1.0 n.1)) ∷ []) ∵ drop ! $ split ! $
    in_a_block ! a.0 (λ p. lies_at R full_share p n.0) (id⊢ 𝓤 _) (λ b o e. move ! (1 ∷ []) $
    in_a_block ! a.1.0 (λ p. lies_at S full_share p n.1) (id⊢ 𝓤 _) (λ b' o' e'.
    regoal ! (λ p. prop (WpFn 𝓤 𝓛.H 𝓣.C 𝓣.Λ code.function (rawptr_vals p ++ (rawptr_vals a.1.0 ++ [])) (W.post (y p a.1.0)))) e refl $
    regoal ! (λ p. prop (WpFn 𝓤 𝓛.H 𝓣.C 𝓣.Λ code.function (rawptr_vals (block_ptr b o) ++ (rawptr_vals p ++ [])) (W.post (y (block_ptr b o) p)))) e' refl $
    enter ! _ _ _ _ _ $ alloc_all ! (λ l. pass_all ! refl ((tt, tt), ((tt, tt), tt)) $
    -- [the register; the shard; the locals]
    sets ! (of_opd ! (get ! refl)) refl (tt, tt) $
    sets ! (addr ! (through ! refl (stop !))) refl (tt, tt) $
    sets ! (of_opd ! (get ! refl)) refl (tt, tt) $
    sets ! (addr ! (through ! refl (stop !))) refl (tt, tt) $
    lft_new ! tt (λ α. move ! (2 ∷ []) $
    let r : ℕ → MutBor ShardHandle = λ δ. record { ref_ptr = (b, o); ghost_name = δ; now = n.0 } in
    let s : ℕ → MutBor RegisterHandle = λ δ. record { ref_ptr = (b', o'); ghost_name = δ; now = n.1 } in
    use1 𝓛 (later (some (λ (δ : ℕ). ‵ ((MutRef (named 0) (α ∷ []) R).own_val (r δ) (mut_vals (r δ))) ⊛ ‵ (flent (α ∷ []) (Body (mem R) b o δ)))))
    (lends_ref 𝓛 R (named 0) (α ∷ []) n.0 b o) $ await ! tt $ pick ! (λ δ. split ! $
    lft_new ! tt (λ β. move ! (4 ∷ []) $
    use1 𝓛 (later (some (λ (ε : ℕ). ‵ ((MutRef (named 1) (β ∷ []) S).own_val (s ε) (mut_vals (s ε))) ⊛ ‵ (flent (β ∷ []) (Body (mem S) b' o' ε)))))
    (lends_ref 𝓛 S (named 1) (β ∷ []) n.1 b' o') $ await ! tt $ pick ! (λ ε. split ! $
    -- [the register's loan; its lender's part; the token of β; the shard's loan; its lender's part; the token of α]
    let G = triple_of 𝓛 g.signature (g.spec 𝓛 𝓜.mem 𝓡.returns) in
    let z : G.Ghost = (((α ∷ [], (β ∷ [], tt)), (full_share, (full_share, tt)), tt, (r δ, (s ε, tt)), (mut_vals (r δ), (mut_vals (s ε), tt))), tt) in
    nothing ! $ move ! (1 ∷ 0 ∷ []) $ join ! $ move ! (3 ∷ 0 ∷ []) $ join ! $
    nothing ! $ move ! (3 ∷ 0 ∷ []) $ join ! $ move ! (4 ∷ 0 ∷ []) $ join ! $ join ! $
    nothing ! $ move ! (1 ∷ 0 ∷ []) $ use2 𝓛 (raw (G.pre z)) (id⊢ 𝓤 _) $
    calls_at ! (framed 𝓤 𝓛.H 𝓜 𝓣) G (met 𝓤 𝓛 𝓜 𝓡 (code.calls-r6_array_c::asked_shard::meet 𝓡.env wired)) z
    (and_then ! (get ! refl) (and_then ! (get ! refl) (no_more !))) (λ v.
    use1 𝓛 (later (some (λ (u : ℕ). ((‵ (flft (α ∷ []) full_share) ⊛ (‵ (flft (β ∷ []) full_share) ⊛ ‵ ftrue)) ⊛ ‵ (u32.own_val u (v ∷ []))) ⊛
    some (λ (ws : ShardHandle × (RegisterHandle × Unit {0})). ‵ (lasts g.ended z.0.0 z.0.3 ws) ⊛
    raw (g.ensures-1 𝓛 z.0.0 𝓜.mem 𝓡.returns (r δ) (s ε) (record { entry = r δ; exit = record (r δ) { now = ws.0 } }) (record { entry = s ε; exit = record (s ε) { now = ws.1.0 } }) u))))) (id⊢ 𝓤 _) $
    await ! tt $ pick ! (λ u. split ! $ split ! $ split ! $ lft_end ! tt $ move ! (1 ∷ []) $ split ! $ lft_end ! tt $ move ! (3 ∷ []) $
    peeks ! u32 (Is u32) (shows 𝓛 u32) u (v ∷ []) (λ is. lands_as ! refl refl ((uint_Lawful 𝓛 w32).typed u _ is).0 $
    -- [the result; β is over; nothing; α is over; what the call leaves; the lenders' parts]
    move ! (4 ∷ []) $ pick ! (λ ws. split ! $ fsplit ! $ fsplit ! $
    -- [the shard's last value; its borrow; the register's; nothing; the result; β is over; nothing; α is over; the lenders' parts]
    move ! (7 ∷ 9 ∷ 0 ∷ []) $ use3 𝓛 (later (‵ (lies_at R full_share (block_ptr b o) ws.0))) (ref_back 𝓛 R (α ∷ []) δ ws.0 b o) $ await ! tt $
    move ! (2 ∷ []) $ fsplit ! $ fsplit ! $
    move ! (7 ∷ 9 ∷ 0 ∷ []) $ use3 𝓛 (later (‵ (lies_at S full_share (block_ptr b' o') ws.1.0))) (ref_back 𝓛 S (β ∷ []) ε ws.1.0 b' o') $ await ! tt $
    returns ! (look_at ! 0 refl) $ free_all ! refl $ keep ! (3 ∷ 0 ∷ 6 ∷ []) $
    use1 𝓛 (some (λ (w : ShardHandle). ‵ (lies_at R full_share (block_ptr b o) w))) (ex_i 𝓤 (λ (w : ShardHandle). sem 𝓛 (lies_at R full_share (block_ptr b o) w)) ws.0) $ move ! (1 ∷ []) $
    use1 𝓛 (some (λ (w : RegisterHandle). ‵ (lies_at S full_share (block_ptr b' o') w))) (ex_i 𝓤 (λ (w : RegisterHandle). sem 𝓛 (lies_at S full_share (block_ptr b' o') w)) ws.1.0) $ move ! (2 ∷ 1 ∷ 0 ∷ []) $
    suffices ! _ (ends_at 𝓛 f.ended stayed c (y (block_ptr b o) (block_ptr b' o')) v u (tt, (tt, tt)) (tt, (tt, tt))) $
    nothing ! $ nothing ! $ join ! $ nothing ! $ join ! $ nothing ! $ group ! 3 $ done !))))))))))))
