-- What a chain keeps on its way.
use Rattle.std.proofs.Common.{◌≡◌, ℕ, ◌+◌, ◌*◌, ◌<◌, ◌≤◌, List, refl, arith, add-one, subst}
use Rattle.ol_net.specs.declared.parts.Port.{Port}
use Rattle.ol_net.specs.declared.parts.Port.TheVariants.{Free, Of}
use Rattle.ol_net.specs.Graph.{Graph}
use Rattle.ol_net.specs.Nets.{NamedNet, NamedPort, slot, Linked, IsPort}
use Rattle.ol_net.specs.Numbered.{numbered_port, net_of}
use Rattle.ol_context.specs.Contexts.{Level, Context}
use Rattle.ol_context.specs.Paths.{Through, through, IsBarred}
use Rattle.ol_context.specs.Shapes.{Extends, AreHeld, context_of}
use Rattle.ol_context.specs.Short.{live}
use Rattle.ol_context.proofs.Shapes.{extends_refl, extends_trans}
use Rattle.ol_context.proofs.Walked.{IsNotFree, through_port}
use Rattle.ol_demand.specs.Chains.{IsAtNoPair, Chain, starts, crosses, left, undefined, budget}
use Rattle.ol_demand.specs.Chains.{at_pair, at_port, barred, at_last, Ends}
use Rattle.ol_rules.specs.UnderWay.{IsPair}
use Rattle.ol_demand.specs.Chaining.{MetBy, HasCome}
use Rattle.ol_demand.specs.declared.answers.Walker.{Walker}

-- after some crossings the chain leaves by a port, with the context that the numbers stand for
pub record Chaining (g : Graph) (from : ℕ) (c : Context) (old vs : List Level) (ns : List ℕ)
    (at : Port) (made most : ℕ) : Type 0 where
  pub extends : Extends old vs
  pub held : AreHeld vs ns
  pub within : made ≤ most
  pub most_is : most ≡ 2 * live (net_of g)
  pub chain : Chain (net_of g) from c made (numbered_port at) (context_of vs ns)
  pub port : IsPort (net_of g) (numbered_port at)

chain_on : {A : Type 0} (N : NamedNet A) (from : ℕ) (c : Context)
    (made : ℕ) {u v w : NamedPort A} {d e : Context} → Chain N from c made u d → IsAtNoPair N u →
    made < 2 * live N → Linked N u v → Through N v d w e → Chain N from c (made + 1) w e
chain_on N from c made h a b l (through {x = x} {s = s} k y) = rw add-one (crosses h a b l k y)

module _ (g : Graph) (from : ℕ) (c : Context) (old : List Level) (most : ℕ) where
  module _ (vs : List Level) (ns : List ℕ) (p : Port) (made : ℕ) (w : Chaining g from c old vs ns p made most) where
    abbrev N : NamedNet ℕ
    N = net_of g

    pub meets : (x y : ℕ) (r : _) → numbered_port p ≡ slot x 0 → IsPair N x y r → MetBy N from c x y
    meets x y r e h = record {
      rule = r;
      pair = h;
      ends = λ f k s a. record {
        made = made;
        port = slot x 0;
        context = context_of vs ns;
        chain = subst (λ p. Chain N from c made p (context_of vs ns)) e w.chain;
        stands = at_pair a;
      };
    }

    module _ (q : Port) (l : Linked N (numbered_port p) (numbered_port q)) where
      pub leaves : (k : ℕ) → q ≡ Free k → Ends N from c (left k (context_of vs ns))
      leaves k e = record {
        made = made;
        port = numbered_port p;
        context = context_of vs ns;
        chain = w.chain;
        stands = at_port (subst (λ q. Linked N (numbered_port p) (numbered_port q)) e l);
      }

      module _ (a : IsAtNoPair N (numbered_port p)) where
        pub goes_on : (us : List Level) (ms : List ℕ) (r : Port) → made < most → Extends vs us →
            AreHeld us ms → Through N (numbered_port q) (context_of vs ns) (numbered_port r) (context_of us ms) →
            Chaining g from c old us ms r (made + 1) most
        goes_on us ms r b x h y = record {
          extends = extends_trans old vs us w.extends x;
          held = h;
          within = omega arith;
          most_is = w.most_is;
          chain = let z = w.most_is in chain_on N from c made w.chain a (omega arith) l y;
          port = through_port N (numbered_port q) (numbered_port r) (context_of vs ns) (context_of us ms) y;
        }

        pub stops : (q' : Port) → q ≡ q' → IsNotFree q' →
            IsBarred N (numbered_port q') (context_of vs ns) → Ends N from c undefined
        stops (Free k) e f b = absurd (f k refl)
        stops (Of x s) e f b = record {
          made = made;
          port = numbered_port p;
          context = context_of vs ns;
          chain = w.chain;
          stands = barred a (subst (λ q. Linked N (numbered_port p) (numbered_port q)) e l) b;
        }

        pub spends : (us : List Level) (ms : List ℕ) (r : Port) (q' : Port) → q ≡ q' →
            IsNotFree q' → most ≤ made → Through N (numbered_port q') (context_of vs ns)
            (numbered_port r) (context_of us ms) → Ends N from c budget
        spends us ms r (Free k) e f b y = absurd (f k refl)
        spends us ms r (Of x s) e f b y = record {
          made = made;
          port = numbered_port p;
          context = context_of vs ns;
          chain = w.chain;
          stands = let z = w.most_is in at_last a
              (subst (λ q. Linked N (numbered_port p) (numbered_port q)) e l) y (omega arith);
        }

-- no more crossings than the budget
pub chain_within : {A : Type 0} {N : NamedNet A} {p : ℕ} {c : Context} {n : ℕ} {u : NamedPort A}
    {d : Context} → Chain N p c n u d → n ≤ 2 * live N
chain_within starts = omega arith
chain_within (crosses h a b l k y) = omega arith

-- whatever chain has come as far as the walker has come here
pub record Onward (g : Graph) (old : List Level) (w : Walker) (vs : List Level) (ns : List ℕ)
    (at : Port) (made most : ℕ) : Type 0 where
  pub extends : Extends old vs
  pub held : AreHeld vs ns
  pub most_is : most ≡ 2 * live (net_of g)
  pub port : IsPort (net_of g) (numbered_port at)
  pub chain : (p : ℕ) (c : Context) → HasCome g p c old w →
      Chain (net_of g) p c made (numbered_port at) (context_of vs ns)

module _ (g : Graph) (old : List Level) (w : Walker) (most : ℕ) where
  pub begins : AreHeld old w.context → IsPort (net_of g) (numbered_port w.at) →
      most ≡ 2 * live (net_of g) → Onward g old w old w.context w.at w.made most
  begins h b e = record {
    extends = extends_refl old;
    held = h;
    most_is = e;
    port = b;
    chain = λ p c h. h;
  }

  module _ (vs : List Level) (ns : List ℕ) (at : Port) (made : ℕ) (o : Onward g old w vs ns at made most) where
    pub chaining : (p : ℕ) (c : Context) → HasCome g p c old w → Chaining g p c old vs ns at made most
    chaining p c h =
        let k = o.chain p c h in
        let b = chain_within k in
        record {
          extends = o.extends;
          held = o.held;
          within = let e = o.most_is in omega arith;
          most_is = o.most_is;
          chain = k;
          port = o.port;
        }

    pub on_and_on : (q : Port) → Linked (net_of g) (numbered_port at) (numbered_port q) →
        IsAtNoPair (net_of g) (numbered_port at) → (us : List Level) (ms : List ℕ) (r : Port) →
        made < most → Extends vs us → AreHeld us ms →
        Through (net_of g) (numbered_port q) (context_of vs ns) (numbered_port r) (context_of us ms) →
        Onward g old w us ms r (made + 1) most
    on_and_on q l a us ms r b x h y = record {
      extends = extends_trans old vs us o.extends x;
      held = h;
      most_is = o.most_is;
      port = through_port (net_of g) (numbered_port q) (numbered_port r) (context_of vs ns) (context_of us ms) y;
      chain = λ p c k. (goes_on g p c old most vs ns at made (chaining p c k) q l a us ms r b x h y).chain;
    }
