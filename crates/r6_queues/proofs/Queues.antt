-- Each move keeps the rule of a queue between one writer and one reader.
use Rattle.std.proofs.Common.{◌≡◌, ◌≢◌, ℕ, zero, suc, true, false, true≢false, List, [], ◌∷◌, ◌++◌, length, set, sym, refl, ap, ◌∙◌, subst, ⊎_elim, append_assoc, arith, Result, Ok, Err, MatchResult}
use Rattle.std.specs.Prelude.{◌+◌, IfErr}
use mathlib.Core.Option.{some, some-ne-none}
use lib.ListN.{get_elem?}
use Rattle.std.proofs.lemmas.List.{length-append}
use Rattle.crossbeam_queue.specs.Fifo.{Held, Pushes, Pops, Forks, Merges, Learns}
use Rattle.crossbeam_queue.proofs.Lists.{at_set, at_snoc}
use Rattle.r6_queues.specs.declared.ends.Ends.{Ends}
use Rattle.r6_queues.specs.Queues.{ends, stranger, having_pushed, having_popped, acknowledgement_of, having_heard, StartsWith, Fits, Relayed, HasPushed}

-- what begins a list begins a longer one
pub longer : {T : Type 0} → (all front more : List T) → StartsWith all front → StartsWith (all ++ more) front
longer all front more x = (x.0 ++ more, ap (λ y. y ++ more) x.1 ∙ append_assoc front x.0 more)

pub whole : {T : Type 0} → (all : List T) → all ≡ all ++ []
whole [] = refl
whole (x ∷ xs) = ap (λ y. x ∷ y) (whole xs)

none-of : {A : Type 0} → false ≡ true → A
none-of e = absurd (true≢false (sym e))

module _ {T K : Type 0} where
  at_end : (l : List (Ends T K)) (a b : Ends T K) (j : ℕ) → get_elem? l j ≢ some b → get_elem? (l ++ a ∷ []) j ≡ some b → j ≡ length l
  at_end [] a b zero n e = refl
  at_end [] a b (suc j) n e = absurd (some-ne-none b (sym e))
  at_end (x ∷ xs) a b zero n e = absurd (n e)
  at_end (x ∷ xs) a b (suc j) n e = ap suc (at_end xs a b j n e)

  abbrev All : (ℕ → Ends T K → Type 0) → List (Ends T K) → Type 0
  All F views = (port : ℕ) (v : Ends T K) → get_elem? views port ≡ some v → F port v

  all_set : (F : ℕ → Ends T K → Type 0) (views : List (Ends T K)) (port : ℕ) (w : Ends T K) → F port w
      → ((j : ℕ) (u : Ends T K) → j ≢ port → get_elem? views j ≡ some u → F j u) → All F (set views port w)
  all_set F views port w mine others j u e = ⊎_elim (λ (x : (j ≡ port) × (w ≡ u)). subst (λ (y : ℕ × Ends T K). F y.0 y.1) (λ i. (sym x.0 i, x.1 i)) mine)
      (λ (x : (j ≢ port) × (get_elem? views j ≡ some u)). others j u x.0 x.1) (at_set views port j w u e)

  module _ (admits : K → List T → Type 0) where
    pub begin : (about : K) → admits about [] → Relayed admits [] (ends true true [] [] [] about ∷ [])
    begin about g = (
      0,
      0,
      [],
      [],
      about,
      refl,
      g,
      all_set (Fits 0 0 [] [] about) (ends true true [] [] [] about ∷ []) 0 (ends true true [] [] [] about)
          ((λ _. (refl, refl, refl)), (λ _. (refl, refl, refl)), ([], refl))
          (λ j u other e. absurd (other (at_end [] _ u j (λ x. some-ne-none u (sym x)) e))),
    )

    pub sends : (n port : ℕ) (v : Ends T K) (x : T) → v.pushes ≡ true → admits v.about (v.pushed ++ x ∷ [])
        → Pushes (Relayed admits) n port v x (λ w. w ≡ having_pushed v x)
    sends n port v x may ok items views _ h at =
        let mine = h.7 port v at in
        let mine0 = mine.0 may in
        let pushed = h.2 ++ x ∷ [] in
        let w : Ends T K = having_pushed v x in (
          w,
          (
            h.0,
            h.1,
            pushed,
            h.3,
            h.4,
            ap (λ l. l ++ x ∷ []) h.5 ∙ append_assoc h.3 items (x ∷ []),
            subst (λ (y : K × List T). admits y.0 (y.1 ++ x ∷ [])) (λ i. (mine0.2 i, mine0.1 i)) ok,
            all_set (Fits h.0 h.1 pushed h.3 h.4) views port w
                ((λ _. (mine0.0, ap (λ l. l ++ x ∷ []) mine0.1, mine0.2)), mine.1, mine.2)
                (λ j u other e. ((λ p. absurd (other (((h.7 j u e).0 p).0 ∙ sym mine0.0))), (h.7 j u e).1, (h.7 j u e).2)),
          ),
          refl,
        )

    pub gets : ((k : K) (xs ys : List T) → admits k (xs ++ ys) → admits k xs) → (port : ℕ) (v : Ends T K) → v.pops ≡ true
        → Pops (Relayed admits) port v (λ x w. (w ≡ having_popped v x) × admits w.about w.popped)
    gets closed port v may x items views h at =
        let mine = h.7 port v at in
        let mine1 = mine.1 may in
        let popped = h.3 ++ x ∷ [] in
        let w : Ends T K = having_popped v x in
        let split : h.2 ≡ popped ++ items = h.5 ∙ sym (append_assoc h.3 (x ∷ []) items) in (
          w,
          (
            h.0,
            h.1,
            h.2,
            popped,
            h.4,
            split,
            h.6,
            all_set (Fits h.0 h.1 h.2 popped h.4) views port w
                (mine.0, (λ _. (mine1.0, ap (λ l. l ++ x ∷ []) mine1.1, mine1.2)), ([], ap (λ l. l ++ x ∷ []) (sym mine1.1) ∙ whole (v.popped ++ x ∷ [])))
                (λ j u other e. ((h.7 j u e).0, (λ p. absurd (other (((h.7 j u e).1 p).0 ∙ sym mine1.0))), longer h.3 u.acknowledged (x ∷ []) (h.7 j u e).2)),
          ),
          (refl, subst (λ (y : K × List T). admits y.0 (y.1 ++ x ∷ [])) (λ i. (sym mine1.2 i, sym mine1.1 i)) (closed h.4 popped items (subst (admits h.4) split h.6))),
        )

    -- the first pass is cut in two, and it is said what the queue is about
    pub appoints : ((k : K) → admits k []) → (about : K) → (port : ℕ) (v : Ends T K) → v ≡ ends true true [] [] [] v.about
        → Forks (Relayed admits) port v (ends true false [] [] [] about) (ends false true [] [] [] about)
    appoints empty about port v is items views h at =
        let l : Ends T K = ends true false [] [] [] about in
        let r : Ends T K = ends false true [] [] [] about in
        let a : v.pushes ≡ true = ap (λ (y : Ends T K). y.pushes) is in
        let b : v.pops ≡ true = ap (λ (y : Ends T K). y.pops) is in
        let mine = h.7 port v at in
        let pushed : h.2 ≡ [] = sym (mine.0 a).1 ∙ ap (λ (y : Ends T K). y.pushed) is in
        let popped : h.3 ≡ [] = sym (mine.1 b).1 ∙ ap (λ (y : Ends T K). y.popped) is in
        let vs : List (Ends T K) = set views port l in
        let Old : ℕ → Ends T K → Type 0 = λ j u. (u.pushes ≡ true → (j ≡ h.0) × (u.pushed ≡ h.2) × (u.about ≡ about)) × (u.pops ≢ true) × StartsWith h.3 u.acknowledged in
        let old : All Old vs = all_set Old views port l ((λ _. ((mine.0 a).0, sym pushed, refl)), (λ p. none-of p), (h.3, refl))
        (λ j u other e. ((λ p. absurd (other (((h.7 j u e).0 p).0 ∙ sym (mine.0 a).0))), (λ p. other (((h.7 j u e).1 p).0 ∙ sym (mine.1 b).0)), (h.7 j u e).2)) in (
          h.0,
          length vs,
          h.2,
          h.3,
          about,
          h.5,
          subst (admits about) (sym pushed) (empty about),
          λ j u e. ⊎_elim (λ x. ((old j u x).0, (λ p. absurd ((old j u x).1 p)), (old j u x).2))
              (λ (x : r ≡ u). (
                (λ p. none-of (ap (λ (y : Ends T K). y.pushes) x ∙ p)),
                (λ p. (at_end vs r u j (λ y. (old j u y).1 p) e, ap (λ (y : Ends T K). y.popped) (sym x) ∙ sym popped, ap (λ (y : Ends T K). y.about) (sym x))),
                (h.3, ap (λ (y : Ends T K). y.acknowledged ++ h.3) x),
              )) (at_snoc vs r u j e),
        )

    -- an acknowledgement of what was popped is cut off
    pub notes : (port : ℕ) (v : Ends T K) → Forks (Relayed admits) port v v (acknowledgement_of v)
    notes port v items views h at =
        let r : Ends T K = acknowledgement_of v in
        let mine = h.7 port v at in
        let vs : List (Ends T K) = set views port v in
        let Now : ℕ → Ends T K → Type 0 = Fits h.0 h.1 h.2 h.3 h.4 in
        let now : All Now vs = all_set Now views port v mine (λ j u _ e. h.7 j u e) in (
          h.0,
          h.1,
          h.2,
          h.3,
          h.4,
          h.5,
          h.6,
          λ j u e. ⊎_elim (λ x. now j u x)
              (λ (x : r ≡ u). (
                (λ p. none-of (ap (λ (y : Ends T K). y.pushes) x ∙ p)),
                (λ p. none-of (ap (λ (y : Ends T K). y.pops) x ∙ p)),
                subst (λ (y : Ends T K). StartsWith h.3 y.acknowledged) x mine.2,
              )) (at_snoc vs r u j e),
        )

    -- an acknowledgement is heard
    pub hears : (port : ℕ) (v : Ends T K) (other : ℕ) (u : Ends T K) (about : K)
        → Merges (Relayed admits) port v other u (having_heard v u) (stranger about)
    hears port v other u about items views h at two at' =
        let both : Ends T K = having_heard v u in
        let mine = h.7 port v at in
        let vs : List (Ends T K) = set views port both in
        let was : get_elem? views other ≡ some u = ⊎_elim (λ x. absurd (two x.0)) (λ x. x.1) (at_set views port other both u at') in
        let theirs = h.7 other u was in
        let Now : ℕ → Ends T K → Type 0 = Fits h.0 h.1 h.2 h.3 h.4 in
        let now : All Now vs = all_set Now views port both (mine.0, mine.1, theirs.2) (λ j y _ e. h.7 j y e) in
        (h.0, h.1, h.2, h.3, h.4, h.5, h.6, all_set Now vs other (stranger about) ((λ p. none-of p), (λ p. none-of p), (h.3, refl)) (λ j y _ e. now j y e))

    -- whoever pushes learns that what it was told of begins what it pushed
    pub learns : (port : ℕ) (v : Ends T K) → v.pushes ≡ true → Learns (Relayed admits) port v (λ items. StartsWith v.pushed v.acknowledged)
    learns port v a items views h at =
        let mine = h.7 port v at in
        (mine.2.0 ++ items, (mine.0 a).1 ∙ h.5 ∙ ap (λ l. l ++ items) mine.2.1 ∙ append_assoc v.acknowledged mine.2.0 items)

    -- and what the queue holds
    pub holds-last : (port : ℕ) (v : Ends T K) → v.pushes ≡ true
        → Learns (Relayed admits) port v (λ items. (front : List T) × (v.pushed ≡ front ++ items) × StartsWith front v.acknowledged)
    holds-last port v a items views h at =
        let mine = h.7 port v at in
        (h.3, (mine.0 a).1 ∙ h.5, mine.2)

-- a full queue
pub full : {T K : Type 0} (v : Ends T K) (n : ℕ) (items : List T) → length items ≡ n
    → (front : List T) × (v.pushed ≡ front ++ items) × StartsWith front v.acknowledged → HasPushed n v
full v n items many x =
    let front = x.0 in
    let a : length v.pushed ≡ length front + length items = ap length x.1 ∙ length-append front items in
    let b : length front ≡ length v.acknowledged + length x.2.0 = ap length x.2.1 ∙ length-append v.acknowledged x.2.0 in
    omega arith

pub full-of : {T K : Type 0} (v w : Ends T K) (n : ℕ) (x : T) (result : Result Unit T)
    → MatchResult result (λ _. w ≡ having_pushed v x)
    (λ back. (back ≡ x) × (w ≡ v) × Held n (λ items. (front : List T) × (v.pushed ≡ front ++ items) × StartsWith front v.acknowledged))
    → IfErr result (λ _. HasPushed n v)
full-of v w n x (Ok ok) r = tt
full-of v w n x (Err back) r = full v n r.2.0 r.2.1 r.2.2
