-- What a walk keeps.
use Rattle.std.proofs.Common.{◌≡◌, ℕ, ◌+◌, ◌<◌, ◌≤◌, List, refl, arith, add-one, subst}
use Rattle.ol_net.specs.declared.parts.Port.{Port}
use Rattle.ol_net.specs.declared.parts.Port.TheVariants.{Free, Of}
use Rattle.ol_net.specs.Graph.{Graph}
use Rattle.ol_net.specs.Nets.{NamedNet, NamedPort, free, slot, Linked, IsNet, IsPort}
use Rattle.ol_net.specs.Numbered.{numbered_port, net_of}
use Rattle.ol_context.specs.Contexts.{Level, Context}
use Rattle.ol_context.specs.Paths.{inward, outward, Through, through, IsBarred}
use Rattle.ol_context.specs.Shapes.{Extends, AreHeld, context_of}
use Rattle.ol_context.specs.Crossed.{IsNodePort}
use Rattle.ol_context.specs.Ways.{Way, start, Exits, WalkStands, Stops}
use Rattle.ol_context.proofs.Shapes.{extends_refl, extends_trans}
use Rattle.ol_context.proofs.Ways.{way_exits, way_on}

-- after some crossings the walk leaves by a port, with the context that the numbers stand for
pub record Walking (g : Graph) (from : ℕ) (c : Context) (old vs : List Level) (ns : List ℕ)
    (at : Port) (made edges : ℕ) : Type 0 where
  pub extends : Extends old vs
  pub held : AreHeld vs ns
  pub within : made ≤ edges
  pub way : Way (net_of g) (free from) c made (numbered_port at) (context_of vs ns)
  pub port : IsPort (net_of g) (numbered_port at)

-- the other end of a link, which is no free port
abbrev pub IsNotFree : Port → Type 0
IsNotFree q = (k : ℕ) → q ≡ Free k → ⊥

pub through_port : (N : NamedNet ℕ) (p q : NamedPort ℕ) (c d : Context) → Through N p c q d → IsPort N q
through_port N p q c d (through {k = k} {i = i} h (inward b e)) = (k, i, h, omega arith)
through_port N p q c d (through {k = k} {i = i} h (outward b e)) = (k, i, h, omega arith)

pub node_port : (g : Graph) → IsNet (net_of g) → (p q : Port) →
    Linked (net_of g) (numbered_port p) (numbered_port q) → IsNotFree q → IsNodePort g q
node_port g n p (Free k) l f = absurd (f k refl)
node_port g n p (Of x s) l f = (n.of_ports (numbered_port p) (slot x.0 s) l).1

module _ (g : Graph) (from : ℕ) (c : Context) (old : List Level) where
  pub begins : (ns : List ℕ) (edges : ℕ) → AreHeld old ns → from < g.free →
      Walking g from (context_of old ns) old old ns (Free from) 0 edges
  begins ns edges h b = record { extends = extends_refl old; held = h; within = omega arith; way = start; port = b }

  module _ (vs : List Level) (ns : List ℕ) (p : Port) (made edges : ℕ)
      (w : Walking g from c old vs ns p made edges) (q : Port)
      (l : Linked (net_of g) (numbered_port p) (numbered_port q)) where
    pub exits : (k : ℕ) → q ≡ Free k → Exits (net_of g) (free from) c edges k (context_of vs ns) made
    exits k e = way_exits (net_of g) edges made k w.way
        (subst (λ q. Linked (net_of g) (numbered_port p) (numbered_port q)) e l) w.within

    pub goes_on : (ws : List Level) (ms : List ℕ) (r : Port) → made < edges → Extends vs ws →
        AreHeld ws ms → Through (net_of g) (numbered_port q) (context_of vs ns) (numbered_port r) (context_of ws ms) →
        Walking g from c old ws ms r (made + 1) edges
    goes_on ws ms r b x h y = record {
      extends = extends_trans old vs ws w.extends x;
      held = h;
      within = omega arith;
      way = rw add-one (way_on (net_of g) w.way l y);
      port = through_port (net_of g) (numbered_port q) (numbered_port r) (context_of vs ns) (context_of ws ms) y;
    }

  -- where the walk stands
  module _ (vs : List Level) (ns : List ℕ) (p : Port) (made edges : ℕ)
      (w : Walking g from c old vs ns p made edges) where
    pub stands : (q : Port) → Linked (net_of g) (numbered_port p) (numbered_port q) → IsNotFree q →
        WalkStands (net_of g) (free from) c made
    stands (Free k) l f = absurd (f k refl)
    stands (Of x s) l f = record {
      port = numbered_port p;
      context = context_of vs ns;
      way = w.way;
      node = x.0;
      at = s;
      linked = l;
    }

    pub stands_last : (q : Port) → Linked (net_of g) (numbered_port p) (numbered_port q) →
        IsNotFree q → edges ≤ made → WalkStands (net_of g) (free from) c edges
    stands_last q l f b = let i = w.within in let e : made ≡ edges = omega arith in
        subst (WalkStands (net_of g) (free from) c) e (stands q l f)

    pub stops : (q : Port) → Linked (net_of g) (numbered_port p) (numbered_port q) → IsNotFree q →
        made < edges → IsBarred (net_of g) (numbered_port q) (context_of vs ns) →
        Stops (net_of g) (free from) c edges (made + 1)
    stops (Free k) l f b n = absurd (f k refl)
    stops (Of x s) l f b n = record {
      made = made;
      tried = add-one made;
      within = omega arith;
      stands = record {
        port = numbered_port p;
        context = context_of vs ns;
        way = w.way;
        node = x.0;
        at = s;
        linked = l;
      };
      barred = n;
    }
