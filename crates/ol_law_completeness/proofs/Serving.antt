-- A run that has rewritten all pairs of another leads on from that one's net, by birth names. So
-- what can be read from the one net can be read from the other.
use Rattle.std.proofs.Common.{◌≡◌, ℕ, ◌+◌, ◌⊎◌, inl, inr, List, [], ◌∷◌, length, refl, sym, subst, arith}
use Rattle.ol_law_edges.specs.Edges.{IsIn}
use Rattle.ol_invariance.proofs.Runs.{run_keeps as paths_kept}
use Rattle.ol_net.specs.declared.parts.Kind.{Kind}
use Rattle.ol_net.specs.Nets.{NamedNet, HasNode, IsNet, SameNet, net_under}
use Rattle.ol_context.specs.Contexts.{Context}
use Rattle.ol_rules.specs.declared.journal.NodeName.{NodeName}
use Rattle.ol_rules.specs.declared.journal.Entry.{Entry}
use Rattle.ol_rules.specs.Rewriting.{Action, NodeOf, left, of_f, of_g}
use Rattle.ol_rules.specs.Runs.{IsRun}
use Rattle.ol_rules.proofs.Relation.{same_refl, same_sym, same_trans}
use Rattle.ol_diamond.specs.Births.{BirthName, init, born, IsPart, IsBirthNet}
use Rattle.ol_diamond.specs.Laws.{RunByBirths}
use Rattle.ol_diamond.specs.Runs.{BirthPair, IsSamePair, IsPairStep, IsPairRun, end, then}
use Rattle.ol_diamond.proofs.Confluence.{step_keeps, run_keeps, pair_trans, pair_sym}
use Rattle.ol_diamond.proofs.OneThreadCounts.{as_many}
use Rattle.ol_diamond.proofs.OneThreadRuns.{run_net, start_alike}
use Rattle.ol_diamond.proofs.Renaming.{under_renamed}
use Rattle.ol_demand.specs.Laws.{IsStart, ArePairsOf}
use Rattle.ol_law_completeness.specs.Complete.{StaysClear}
use Rattle.ol_law_completeness.specs.Least.{MeetsNone}
use Rattle.ol_law_completeness.proofs.Fronts.{IsAmong, front}
use Rattle.ol_law_completeness.proofs.Frozen.{none_same, none_renamed, meets_renamed}
use Rattle.ol_law_completeness.proofs.Lasting.{Lasts, lasts, none_stays}

-- ---- no pair is rewritten twice

-- no node has this name or one that is part of it
abbrev Without : NamedNet BirthName → BirthName → Type 0
Without N y = (x : BirthName) (k : Kind) (i : ℕ) → HasNode N x k i → (x ≡ y) ⊎ IsPart x y → ⊥

-- what made a node is part of what the node is part of
part_of_birth : (f g : BirthName) (n : ℕ) (y : BirthName) → IsPart (born f g n) y → IsPart f y
part_of_birth f g n (init m) h = absurd h
part_of_birth f g n (born a b m) (inl (inl e)) =
    inl (inr (subst (λ a. IsPart f a) e (inl (inl refl))))
part_of_birth f g n (born a b m) (inl (inr h)) = inl (inr (part_of_birth f g n a h))
part_of_birth f g n (born a b m) (inr (inl e)) =
    inr (inr (subst (λ b. IsPart f b) e (inl (inl refl))))
part_of_birth f g n (born a b m) (inr (inr h)) = inr (inr (part_of_birth f g n b h))

birth_in : (f g : BirthName) (n : ℕ) (y : BirthName) → (born f g n ≡ y) ⊎ IsPart (born f g n) y →
    IsPart f y
birth_in f g n y (inl e) = subst (λ y. IsPart f y) e (inl (inl refl))
birth_in f g n y (inr h) = part_of_birth f g n y h

module _ (N K : NamedNet BirthName) (p : BirthPair) (b : IsBirthNet N) (s : IsPairStep N p K) where
  -- the first node of the pair is gone
  gone : Without K p.f
  gone x k i h t = go ((s.rewrites.nodes x k i).0 h) t
    where
      not_part : IsPart p.f p.f → ⊥
      not_part = b.no_part p.f p.f s.active.k s.active.k s.active.i s.active.i
          s.active.faces.first s.active.faces.first

      go : {action : Action} {x : BirthName} {k : Kind} {i : ℕ} → NodeOf N (born p.f p.g) p.f p.g
          s.active.k s.active.i s.active.l action x k i → (x ≡ p.f) ⊎ IsPart x p.f → ⊥
      go (left h a c) (inl e) = a e
      go {x = x} {k = k} {i = i} (left h a c) (inr t) =
          b.no_part x p.f k s.active.k i s.active.i h s.active.faces.first t
      go (of_f {q = q} j e l) t = not_part (birth_in p.f p.g q p.f t)
      go (of_g {p = q} j e l) t = not_part (birth_in p.f p.g _ p.f t)

  -- and what is gone stays away
  still_gone : (y : BirthName) → Without N y → Without K y
  still_gone y w x k i h t = go ((s.rewrites.nodes x k i).0 h) t
    where
      go : {action : Action} {x : BirthName} {k : Kind} {i : ℕ} → NodeOf N (born p.f p.g) p.f p.g
          s.active.k s.active.i s.active.l action x k i → (x ≡ y) ⊎ IsPart x y → ⊥
      go {x = x} {k = k} {i = i} (left h a c) t = w x k i h t
      go (of_f {q = q} j e l) t =
          w p.f s.active.k s.active.i s.active.faces.first (inr (birth_in p.f p.g q y t))
      go (of_g {p = q} j e l) t =
          w p.f s.active.k s.active.i s.active.faces.first (inr (birth_in p.f p.g _ y t))

not_again : (K A : NamedNet BirthName) (ps : List BirthPair) (p : BirthPair) → IsBirthNet K →
    IsPairRun K ps A → Without K p.f → (x : BirthPair) → IsIn x ps → IsSamePair p x → ⊥
not_again K A [] p b r w x i h = absurd i
not_again K A (q ∷ ps) p b (then {M = L} s t) w x (inr i) h =
    not_again L A ps p (step_keeps K L q b s) t (still_gone K L q b s p.f w) x i h
not_again K A (q ∷ ps) p b (then {M = L} s t) w x (inl e) h = go h.1
  where
    go : ((p.f ≡ x.f) × (p.g ≡ x.g)) ⊎ ((p.f ≡ x.g) × (p.g ≡ x.f)) → ⊥
    go (inl z) = w q.f s.active.k s.active.i s.active.faces.first (inl (sym (subst (λ x. p.f ≡ x.f)
        e z.0)))
    go (inr z) = w q.g s.active.l s.active.j s.active.faces.second (inl (sym (subst (λ x. p.f ≡ x.g)
        e z.0)))

-- ---- a run that has rewritten these pairs

record GoesOnTo (A Q : NamedNet BirthName) (ps qs : List BirthPair) : Type 0 where
  rest : List BirthPair
  after : NamedNet BirthName
  run : IsPairRun A rest after
  same : SameNet Q after
  many : length ps + length rest ≡ length qs

goes_on : (N A Q : NamedNet BirthName) (ps qs : List BirthPair) → IsBirthNet N →
    IsPairRun N ps A → IsPairRun N qs Q → ((p : BirthPair) → IsIn p ps → IsAmong p qs) →
    GoesOnTo A Q ps qs
goes_on N A Q [] qs b end r h =
    record { rest = qs; after = Q; run = r; same = same_refl Q; many = omega arith }
goes_on N A Q (p ∷ ps) qs b (then {M = K} s t) r h =
    let f = front N K Q p qs b s r (h p (inl refl)) in
    let b' = step_keeps N K p b s in
    let y = goes_on K A f.after ps f.rest b' t f.run (λ x i. later f.rest f.others b' x i
    (h x (inr i))) in
    record {
      rest = y.rest;
      after = y.after;
      run = y.run;
      same = same_trans Q f.after y.after f.same y.same;
      many = let w = f.shorter in let m = y.many in omega arith;
    }
  where
    later : (rest : List BirthPair) → ((m : BirthPair) → IsIn m qs → IsSamePair m p ⊎ IsIn m rest) →
        IsBirthNet K → (x : BirthPair) → IsIn x ps → IsAmong x qs → IsAmong x rest
    later rest others b' x i (m, j, e) = go (others m j)
      where
        go : IsSamePair m p ⊎ IsIn m rest → IsAmong x rest
        go (inl z) =
            absurd (not_again K A ps p b' t (gone N K p b s) x i (pair_trans p m x
            (pair_sym m p z) e))
        go (inr k) = (m, k, e)

none_beyond : (A W : NamedNet BirthName) (ps : List BirthPair) → IsPairRun A ps W →
    length ps ≡ 0 → SameNet A W
none_beyond A W [] end e = same_refl A
none_beyond A W (p ∷ ps) r e = absurd (omega arith)

none_run : (A W : NamedNet BirthName) (ps : List BirthPair) → IsBirthNet A → IsPairRun A ps W →
    (p : ℕ) (c : Context) → MeetsNone A p c → MeetsNone W p c
none_run A W [] b end p c h = h
none_run A W (q ∷ ps) b (then {M = K} s r) p c h =
    let b' = step_keeps A K q b s in
    none_run K W ps b' r p c
    (none_stays A K (born q.f q.g) q.f q.g q.rule b.net b'.net s p c h)

-- ---- by journals

module _ (N M P : NamedNet NodeName) (journal other : List Entry) (start : IsStart N)
    (clear : StaysClear N) (run : IsRun N 0 journal M) (run' : IsRun N 0 other P)
    (r : RunByBirths N journal M) (s : RunByBirths N other P) (all : ArePairsOf r s) where
  net_of : IsNet M
  net_of = run_net N M 0 journal start.net start.named run

  net_of_other : IsNet P
  net_of_other = run_net N P 0 other start.net start.named run'

  beyond : GoesOnTo r.after s.after r.pairs s.pairs
  beyond =
      goes_on (net_under r.birth N) r.after s.after r.pairs s.pairs r.start r.run
      (subst (λ B. IsPairRun B s.pairs s.after) (start_alike N start.net start.named s.birth r.birth
      s.initial r.initial) s.run) all

  none_there : (p : ℕ) (c : Context) → MeetsNone M p c → MeetsNone P p c
  none_there p c h f g rule m =
      let x = none_renamed r.birth M (net_under r.birth M) net_of
      (under_renamed r.birth M r.apart) p c h in
      let y = none_same (net_under r.birth M) r.after
      (same_sym r.after (net_under r.birth M) r.same) p c x in
      let z = none_run r.after beyond.after beyond.rest
      (run_keeps (net_under r.birth N) r.after r.pairs r.start r.run) beyond.run p c y in
      let w = none_same beyond.after s.after (same_sym s.after beyond.after beyond.same) p c z in
      let v = none_same s.after (net_under s.birth P) s.same p c w in
      v (s.birth f) (s.birth g) rule (meets_renamed s.birth P (net_under s.birth P) net_of_other
      (under_renamed s.birth P s.apart) p c f g rule m)

  pub lasts_beyond : Lasts M P
  lasts_beyond =
      let k = paths_kept N M 0 journal start.net start.named run in
      let k' = paths_kept N P 0 other start.net start.named run' in
      lasts M P net_of net_of_other (clear other P run') (λ p c q d. (
        λ t. (k' p c q d).0 ((k p c q d).1 t),
        λ t. (k p c q d).0 ((k' p c q d).1 t),
      )) none_there

  -- a run of the same pairs, and of no more, leads to the same net by birth names
  pub one_net : length journal ≡ length other → SameNet r.after s.after
  one_net e =
      let a = as_many r.birth 0 journal r.pairs r.births in
      let b = as_many s.birth 0 other s.pairs s.births in
      let m = beyond.many in
      same_trans r.after beyond.after s.after
      (none_beyond r.after beyond.after beyond.rest beyond.run (omega arith))
      (same_sym s.after beyond.after beyond.same)
