-- A question's walker, through the chain, the step of the pair that it met, and on.
use Rattle.std.proofs.Common.{◌≡◌, ℕ, suc, ◌+◌, ◌*◌, ◌<◌, ◌≤◌, ◌⊎◌, inl, inr, List, ◌∷◌, [], length, take, sym, ◌∙◌}
use Rattle.std.proofs.Common.{subst, arith}
use Rattle.std.proofs.lemmas.List.{get_or-take, length-take}
use Rattle.ol_net.specs.declared.parts.Rule.{Rule}
use Rattle.ol_net.specs.Graph.{Graph}
use Rattle.ol_net.specs.Nets.{NamedPort, slot, Linked, IsNet, IsPort}
use Rattle.ol_net.specs.Numbered.{numbered_port, net_of}
use Rattle.ol_context.specs.Contexts.{Level, empty, Context}
use Rattle.ol_context.specs.Paths.{inward, outward}
use Rattle.ol_context.specs.Shapes.{IsNumberOf, Extends, AreHeld, context_of}
use Rattle.ol_context.specs.Short.{live}
use Rattle.ol_context.proofs.Shapes.{context_more, held_more}
use Rattle.ol_context.proofs.ValueLists.{held_append}
use Rattle.ol_rules.specs.Steps.{StepsAt}
use Rattle.ol_demand.specs.Chains.{Chain, starts, crosses}
use Rattle.ol_demand.specs.Chaining.{HasCome, IsEndOf, IsHeldEnd, IsAtPrincipal, StepsBack}
use Rattle.ol_demand.specs.Chaining.{question_of, IsQuestion, IsKeptOrCut, GoesOnOrBegins}
use Rattle.ol_rules.specs.UnderWay.{Advances}
use Rattle.ol_demand.specs.Asking.{AdvancesEither}
use Rattle.ol_demand.specs.declared.answers.End.TheVariants as answer
use Rattle.ol_demand.specs.declared.answers.Walker.{Walker}
use Rattle.ol_rules.specs.declared.under_way.UnderWay.{UnderWay}
use Rattle.ol_demand.proofs.Staying.{chain_stays, not_met}
use Rattle.ol_net.specs.declared.parts.NodeId.{NodeId}

-- the last port of a chain is a port of the net
pub chain_port : (g : Graph) (p : ℕ) (c : Context) {n : ℕ} {u : NamedPort ℕ} {d : Context} → p < g.free →
    Chain (net_of g) p c n u d → IsPort (net_of g) u
chain_port g p c b starts = b
chain_port g p c b (crosses {k = k} {i = i} h a f l hx (inward z e)) = (k, i, hx, omega arith)
chain_port g p c b (crosses {k = k} {i = i} h a f l hx (outward z e)) = (k, i, hx, omega arith)

-- a chain that would enter an auxiliary port next stays after a step, if it is within the new budget
pub front_kept : (g g' : Graph) (at : ℕ) (r : Rule) → IsNet (net_of g) → IsNet (net_of g') →
    StepsAt g g' at r → (p : ℕ) (c : Context) (n : ℕ) (u : NamedPort ℕ) (d : Context) (x s : ℕ) →
    Linked (net_of g) u (slot x (suc s)) → n ≤ 2 * live (net_of g') →
    Chain (net_of g) p c n u d → Chain (net_of g') p c n u d
front_kept g g' at r is_net is_net' t p c n u d x s l b h =
    let o = not_met (net_of g) (net_of g') (λ place. length g.nodes + place) t.f t.g r is_net is_net' t.step u x s l in
    (chain_stays (net_of g) (net_of g') (λ place. length g.nodes + place) t.f t.g r is_net is_net' t.step h b o.0 o.1).0

-- the question to these levels with this mark has come as far as the walker
pub record IsWalked (g : Graph) (from : ℕ) (ls : List ℕ) (vs : List Level) (mark : ℕ) (w : Walker) : Type 0 where
  pub held : AreHeld vs w.context
  pub chain : HasCome g from (context_of vs (question_of ls mark)) vs w

module _ (from : ℕ) (ls : List ℕ) (mark : ℕ) where
  pub question_held : (vs : List Level) → AreHeld vs ls → mark < length vs → AreHeld vs (question_of ls mark)
  question_held vs h b = held_append vs ls (mark ∷ []) h (b, tt)

  pub begun_walk : (g : Graph) (vs : List Level) (w : Walker) → AreHeld vs ls → mark < length vs →
      IsQuestion from ls mark w → IsWalked g from ls vs mark w
  begun_walk g vs w h b q = subst (λ w. IsWalked g from ls vs mark w) (sym q)
      (record { held = question_held vs h b; chain = starts })

  module _ (g : Graph) (vs : List Level) (h : AreHeld vs ls) (b : mark < length vs) where
    -- at more values
    pub more_values : (us : List Level) (w : Walker) → Extends vs us → AreHeld us w.context →
        HasCome g from (context_of vs (question_of ls mark)) us w → IsWalked g from ls us mark w
    more_values us w x k y = record {
      held = k;
      chain = subst (λ c. HasCome g from c us w)
          (sym (context_more vs us (question_of ls mark) x (question_held vs h b))) y;
    }

  -- the pair that was met, and the walker there
  pub at_principal : (g : Graph) (c : Context) (us : List Level) (x y : NodeId) (w : Walker) →
      IsEndOf g from c us (answer.Met (x, y) w) → IsAtPrincipal g us w
  at_principal g c us x y w e = record {
    from = from;
    question = c;
    node = x.0;
    at = e.1;
    chain = e.2;
  }

  module _ (g g' : Graph) (is_net : IsNet (net_of g)) (vs us ws : List Level) (h : AreHeld vs ls)
      (b : mark < length vs) (x : Extends vs us) (x' : Extends us ws) where
    pub resumed : (xs : List Level) (w w' w'' : Walker) (f k : NodeId) (run run' : UnderWay) → AreHeld xs ls →
        mark < length xs → IsHeldEnd us (answer.Met (f, k) w) →
        IsEndOf g from (context_of vs (question_of ls mark)) us (answer.Met (f, k) w) →
        StepsBack g us w ws w' → AdvancesEither run run' g g' f.0 k.0 →
        GoesOnOrBegins g' from ls mark w' ws w'' xs → IsWalked g' from ls xs mark w''
    resumed xs w w' w'' f k run run' hx bx hw e s a o = go o
      where
        long : mark < length us
        long = let l = x.longer in omega arith

        held : AreHeld us ls
        held = held_more vs us ls x h

        at_us : IsWalked g from ls us mark w
        at_us = more_values g vs h b us w x hw e.2

        before : IsWalked g from ls ws mark w'
        before = more_values g us held long ws w' x' s.held
            (s.chain from (context_of us (question_of ls mark)) at_us.chain)

        step : (z t : ℕ) → Advances run run' g g' z t → w'.made ≤ 2 * live (net_of g') →
            IsWalked g' from ls ws mark w'
        step z t y m = record {
          held = before.held;
          chain = front_kept g g' z y.rule is_net y.is_net y.step from
              (context_of ws (question_of ls mark)) w'.made (numbered_port w'.at)
              (context_of ws w'.context) s.node s.at s.linked m before.chain;
        }

        either : w'.made ≤ 2 * live (net_of g') → AdvancesEither run run' g g' f.0 k.0 → IsWalked g' from ls ws mark w'
        either m (inl y) = step f.0 k.0 y.1 m
        either m (inr y) = step k.0 f.0 y.1 m

        go : ((w'' ≡ w') × (w'.made ≤ 2 * live (net_of g')) × (xs ≡ ws)) ⊎ IsQuestion from ls mark w'' →
            IsWalked g' from ls xs mark w''
        go (inl q) = subst (λ (xs : List Level). IsWalked g' from ls xs mark w'') (sym q.2)
            (subst (λ w. IsWalked g' from ls ws mark w) (sym q.0) (either q.1 a))
        go (inr q) = begun_walk g' xs w'' hx bx q

-- ---- values cut

pub cut_extends : (old vs : List Level) (count : ℕ) → Extends old vs → length old ≤ count → Extends old (take count vs)
cut_extends old vs count x b = record {
  longer = let l = x.longer in let m = length-take count vs in omega arith;
  same = λ k h. get_or-take count vs k empty (omega arith) ∙ x.same k h;
}

pub cut_number : (vs : List Level) (count mark : ℕ) (v : Level) → IsNumberOf vs mark v → mark < count →
    IsNumberOf (take count vs) mark v
cut_number vs count mark v n b = record {
  held = let h = n.held in let m = length-take count vs in omega arith;
  is = get_or-take count vs mark empty b ∙ n.is;
}

pub number_more : (vs us : List Level) (mark : ℕ) (v : Level) → Extends vs us → IsNumberOf vs mark v → IsNumberOf us mark v
number_more vs us mark v x n = record {
  held = let h = n.held in let l = x.longer in omega arith;
  is = x.same mark n.held ∙ n.is;
}

pub number_at : (vs us ws : List Level) (count mark : ℕ) (v : Level) → ws ≡ take count us → Extends vs us →
    IsNumberOf vs mark v → mark < count → IsNumberOf ws mark v
number_at vs us ws count mark v e x n b = subst (λ (ws : List Level). IsNumberOf ws mark v) (sym e)
    (cut_number us count mark v (number_more vs us mark v x n) b)

-- what is known of values that were kept or cut
pub record AreKept (old xs : List Level) (count mark : ℕ) (v : Level) : Type 0 where
  pub extends : Extends old xs
  pub number : IsNumberOf xs mark v
  pub counted : count ≤ length xs

pub are_kept : (old ws xs : List Level) (count mark : ℕ) (v : Level) → Extends old ws → length old ≤ count →
    IsNumberOf ws mark v → mark < count → count ≤ length ws → IsKeptOrCut count ws xs → AreKept old xs count mark v
are_kept old ws xs count mark v x l n b c k = go k
  where
    go : (xs ≡ ws) ⊎ (xs ≡ take count ws) → AreKept old xs count mark v
    go (inl e) = subst (λ (xs : List Level). AreKept old xs count mark v) (sym e)
        (record { extends = x; number = n; counted = c })
    go (inr e) = subst (λ (xs : List Level). AreKept old xs count mark v) (sym e) (record {
      extends = cut_extends old ws count x l;
      number = cut_number ws count mark v n b;
      counted = let m = length-take count ws in omega arith;
    })
