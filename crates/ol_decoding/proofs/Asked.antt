-- What a part that is asked is found to be.
use Rattle.std.proofs.Common.{◌≡◌, ℕ, suc, ◌+◌, ◌-◌, ◌*◌, ◌<◌, ◌≤◌, ◌⊎◌, inl, inr, List, ◌∷◌, [], ◌++◌, length, map}
use Rattle.std.proofs.Common.{get_or, refl, sym, ap, subst, arith}
use Rattle.ol_net.specs.declared.parts.NodeId.{NodeId}
use Rattle.ol_net.specs.declared.parts.Rule.{Rule}
use Rattle.ol_net.specs.Graph.{Graph}
use Rattle.ol_net.specs.Nets.{slot, IsPrincipalOf}
use Rattle.ol_net.specs.Numbered.{net_of}
use Rattle.ol_net.specs.Pairs.{IsActive}
use Rattle.ol_context.specs.Contexts.{Level, Context}
use Rattle.ol_context.specs.Asked.{asked}
use Rattle.ol_context.specs.Shapes.{value}
use Rattle.ol_context.specs.Short.{live}
use Rattle.ol_rules.specs.Steps.{StepsAt}
use Rattle.ol_readback.specs.Askers.{IsKnownHead}
use Rattle.ol_readback.specs.Frames.{Frame, frames_of}
use Rattle.ol_readback.specs.Heads.{Answer, no_head, IsMatched, answer_of, IsHeldHead}
use Rattle.ol_readback.specs.ReadTrees.{Subterm, framed}
use Rattle.ol_readback.specs.declared.answers.Head.{Head}
use Rattle.ol_readback.specs.declared.answers.Head.TheVariants as head
use Rattle.ol_readback.specs.declared.frames.Frame as listed
use Rattle.ol_demand.specs.Chains.{IsAtPair, Ends, left, undefined, budget}
use Rattle.ol_net.proofs.Numbered.{few_live}
use Rattle.ol_demand.proofs.Questions.{port_is_last, levels_last}
use Rattle.ol_decoding.specs.declared.chaining.End.{End}
use Rattle.ol_decoding.specs.declared.chaining.End.TheVariants as code
use Rattle.ol_decoding.specs.declared.asking.Reply.TheVariants as reply
use Rattle.ol_decoding.specs.Asking.{OfLast, IsReply, IsPartFound}
use Rattle.ol_decoding.specs.Chaining.{IsInPair, IsEndOf}
use Rattle.ol_decoding.specs.Parts.{MeetsPair, Finds, rewrites, one_more, leaves, never, goes_on, spends}

-- the end of its chain
pub end_at : (vs : List Level) (fs : List listed.Frame) (at : ℕ) (f : listed.Frame) → at + 1 ≡ length fs →
    f ≡ get_or fs at f → (g : Graph) (n : ℕ) (us : List Level) (end end' : End) →
    IsEndOf g f.port (asked (map (value vs) f.levels) n) us end → end ≡ end' →
    OfLast (frames_of vs fs) (λ front s. IsEndOf g s.port (asked s.levels n) us end')
end_at vs fs at f b e g n us end end' h q front s z =
    subst (λ end. IsEndOf g s.port (asked s.levels n) us end) q
    (subst (λ p. IsEndOf g p (asked s.levels n) us end) (port_is_last vs fs at f b e front s z)
    (subst (λ ls. IsEndOf g f.port (asked ls n) us end) (levels_last vs fs at f b e front s z) h))

-- the pair of the node that was met is rewritten
pub met_step : (g h : Graph) (s : Subterm) (n : ℕ) (x : NodeId) (vs : List Level) (r : Rule) →
    IsEndOf g s.port (asked s.levels n) vs (code.Met x) → StepsAt g h x.0 r → MeetsPair g s n h
met_step g h s n x vs r e t = record {
  at = x.0;
  rule = r;
  step = t;
  ends = e.1 t.f t.g r (record { active = t.step.active; principal = go t.one_of });
}
  where
    go : (x.0 ≡ t.f) ⊎ (x.0 ≡ t.g) → IsPrincipalOf t.f t.g (slot x.0 0)
    go (inl e) = inl (ap (λ x. slot x 0) e)
    go (inr e) = inr (ap (λ x. slot x 0) e)

pub few_of_graph : (g : Graph) → live (net_of g) ≤ length g.nodes
few_of_graph g = few_live 0 g.nodes

-- ---- asked once

module _ (g : Graph) (F : List Frame) (lams steps : ℕ) (vs : List Level) where
  pub spent_once : steps ≡ 0 → (x : NodeId) → IsInPair g x →
      OfLast F (λ front s. IsEndOf g s.port (asked s.levels lams) vs (code.Met x)) →
      IsReply g g F lams steps vs (reply.Found head.NoHead)
  spent_once b x p d = (refl, tt, tt, λ front s q. subst (λ f. Finds front s f lams g 0 no_head g) (sym b) (go p.2.1 front s q))
    where
      at_pair : (y z : ℕ) → IsAtPair (net_of g) (slot x.0 0) y z p.0 →
          OfLast F (λ front s. Finds front s 0 lams g 0 no_head g)
      at_pair y z a front s q = spends ((d front s q).1 y z p.0 a)

      go : IsActive (net_of g) x.0 p.2.0 p.0 ⊎ IsActive (net_of g) p.2.0 x.0 p.0 →
          OfLast F (λ front s. Finds front s 0 lams g 0 no_head g)
      go (inl a) = at_pair x.0 p.2.0 (record { active = a; principal = inl refl })
      go (inr a) = at_pair p.2.0 x.0 (record { active = a; principal = inr refl })

  pub never_once : live (net_of g) ≤ lams → OfLast F (λ front s. Ends (net_of g) s.port (asked s.levels lams) undefined) →
      IsReply g g F lams steps vs (reply.Found head.NoHead)
  never_once b d = (refl, tt, tt, λ front s q. never (d front s q) b)

  pub long_once : OfLast F (λ front s. Ends (net_of g) s.port (asked s.levels lams) budget) →
      IsReply g g F lams steps vs (reply.Found head.NoHead)
  long_once d = (refl, tt, tt, λ front s q. goes_on (d front s q))

  pub left_once : (a : Head) (q : ℕ) (X : Context) →
      OfLast F (λ front s. Ends (net_of g) s.port (asked s.levels lams) (left q X)) →
      OfLast F (λ front s. IsMatched (front ++ framed s 0 ∷ []) (length front) lams q X (answer_of vs a)) →
      IsHeldHead vs a → IsKnownHead g.free F a → IsReply g g F lams steps vs (reply.Found a)
  left_once a q X d m k w = (refl, k, w, λ front s z. leaves (d front s z) (m front s z))

-- ---- asked until it is found

-- whatever is found from here on was found from the start on
abbrev pub Onward : Graph → List Frame → ℕ → (made lams : ℕ) → Graph → Type 0
Onward g F fuel made lams h = (front : List Frame) (s : Subterm) → F ≡ front ++ framed s 0 ∷ [] →
    (m : ℕ) (a : Answer) (i : Graph) → Finds front s (fuel - made) lams h m a i → Finds front s fuel 0 g (made + m) a i

less_one : (fuel made : ℕ) → made < fuel → fuel - made ≡ suc (fuel - (made + 1))
less_one fuel made b = omega arith

one_on : (made m : ℕ) → made + suc m ≡ made + 1 + m
one_on made m = omega arith

pub started : (g : Graph) (F : List Frame) (fuel : ℕ) → Onward g F fuel 0 0 g
started g F fuel front s z m a i r =
    let e : m ≡ 0 + m = omega arith in
    let b : fuel - 0 ≡ fuel = omega arith in
    subst (λ c. Finds front s fuel 0 g c a i) e (subst (λ f. Finds front s f 0 g m a i) b r)

module _ (g h : Graph) (F : List Frame) (fuel made lams : ℕ) (o : Onward g F fuel made lams h) where
  pub on_step : (i : Graph) → made < fuel → OfLast F (λ front s. MeetsPair h s lams i) → Onward g F fuel (made + 1) lams i
  on_step i b m front s z k a j r =
      subst (λ c. Finds front s fuel 0 g c a j) (one_on made k)
      (o front s z (suc k) a j (subst (λ f. Finds front s f lams h (suc k) a j) (sym (less_one fuel made b))
      (rewrites (m front s z) r)))

  pub on_more : lams < live (net_of h) → OfLast F (λ front s. Ends (net_of h) s.port (asked s.levels lams) undefined) →
      Onward g F fuel made (lams + 1) h
  on_more b d front s z k a j r =
      let e : lams + 1 ≡ suc lams = omega arith in
      o front s z k a j (one_more (d front s z) b (subst (λ n. Finds front s (fuel - made) n h k a j) e r))

  -- what was found at once
  at_once : (a : Answer) → OfLast F (λ front s. Finds front s (fuel - made) lams h 0 a h) →
      OfLast F (λ front s. Finds front s fuel 0 g made a h)
  at_once a d front s z =
      let e : made + 0 ≡ made = omega arith in
      subst (λ c. Finds front s fuel 0 g c a h) e (o front s z 0 a h (d front s z))

  pub part_found : made ≤ fuel → length h.nodes ≤ length g.nodes + 4 * made → h.free ≡ g.free → (vs : List Level) →
      (a : Head) → IsHeldHead vs a → IsKnownHead h.free F a →
      OfLast F (λ front s. Finds front s (fuel - made) lams h 0 (answer_of vs a) h) →
      IsPartFound g h F fuel vs a made
  part_found within few free vs a held known d = record {
    finds = at_once (answer_of vs a) d;
    within = within;
    few = few;
    free = free;
    held = held;
    known = subst (λ n. IsKnownHead n F a) free known;
  }
