-- There is a step of each active pair that leaves a net which lists each node once, and an entry
-- for it; and so a turn where a chain meets the pair.
use Rattle.std.proofs.Common.{◌≡◌, ◌≢◌, ℕ, Bool, true, false, ◌⊎◌, inl, inr, ◌↔◌, List, [], ◌∷◌}
use Rattle.std.proofs.Common.{◌<◌, length, refl, sym, ap, subst}
use Rattle.ol_law_edges.specs.Edges.{IsIn}
use Rattle.ol_law_edges.proofs.Contraction.{is_or_is_not}
use Rattle.ol_net.specs.declared.parts.Kind.{Kind}
use Rattle.ol_net.specs.declared.parts.Rule.{Rule}
use Rattle.ol_net.specs.Nets.{NamedNet, slot, Linked, IsNet}
use Rattle.ol_net.specs.Pairs.{IsActive}
use Rattle.ol_context.specs.Short.{IsOnce}
use Rattle.ol_rules.specs.declared.journal.NodeName.{NodeName}
use Rattle.ol_rules.specs.declared.journal.NodeName.TheVariants.{Born}
use Rattle.ol_rules.specs.declared.journal.Entry.{Entry}
use Rattle.ol_rules.specs.Names.{comes_before, IsNamed}
use Rattle.ol_rules.specs.Laws.{AreNamedBefore, IsFresh}
use Rattle.ol_rules.specs.Rewriting.{IsStep}
use Rattle.ol_rules.specs.Runs.{IsEntryStep}
use Rattle.ol_rules.proofs.OneRun.{name_same, name_test, fresh_names, one_name}
use Rattle.ol_rules.proofs.Relation.{net_kept, next as step_next}
use Rattle.ol_readback.specs.Frames.{Frame, asked}
use Rattle.ol_readback.specs.ReadTrees.{Subterm}
use Rattle.ol_demand.specs.Chains.{met, Ends}
use Rattle.ol_demand.specs.Demands.{asks, Turn, rewrites}

abbrev Nodes : Type 0
Nodes = List (NodeName × Kind × ℕ)

-- the node of a name in a list, or that there is none
named_or_none : (x : NodeName) (ns : Nodes) → ((k : Kind) × (i : ℕ) × IsIn (x, k, i) ns)
    ⊎ ((k : Kind) (i : ℕ) → IsIn (x, k, i) ns → ⊥)
named_or_none x [] = inr (λ k i h. h)
named_or_none x (n ∷ ns) = by (is_or_is_not name_same name_test x n.0) (named_or_none x ns)
  where
    by : (n.0 ≡ x) ⊎ (n.0 ≢ x) → ((k : Kind) × (i : ℕ) × IsIn (x, k, i) ns) ⊎ ((k : Kind) (i : ℕ) →
        IsIn (x, k, i) ns → ⊥) → ((k : Kind) × (i : ℕ) × IsIn (x, k, i) (n ∷ ns))
        ⊎ ((k : Kind) (i : ℕ) → IsIn (x, k, i) (n ∷ ns) → ⊥)
    by (inl e) t = inl (n.1, n.2, inl (ap (λ y. (y, n.1, n.2)) (sym e)))
    by (inr e) (inl t) = inl (t.0, t.1, inr t.2)
    by (inr e) (inr t) = inr (λ k i h. no k i h)
      where
        no : (k : Kind) (i : ℕ) → IsIn (x, k, i) (n ∷ ns) → ⊥
        no k i (inl z) = e (ap (λ (n : NodeName × Kind × ℕ). n.0) (sym z))
        no k i (inr h) = t k i h

abbrev OneEach : Nodes → Type 0
OneEach ns = (x : NodeName) (k l : Kind) (i j : ℕ) → IsIn (x, k, i) ns → IsIn (x, l, j) ns →
    (k ≡ l) × (i ≡ j)

record Listed (ns : Nodes) : Type 0 where
  list : Nodes
  once : IsOnce list
  same : (n : NodeName × Kind × ℕ) → IsIn n ns ↔ IsIn n list

listed : (ns : Nodes) → OneEach ns → Listed ns
listed [] one = record { list = []; once = tt; same = λ n. (λ h. h, λ h. h) }
listed (n ∷ ns) one = by (listed ns (λ x k l i j h h'. one x k l i j (inr h) (inr h')))
  where
    by : Listed ns → Listed (n ∷ ns)
    by r = go (named_or_none n.0 r.list)
      where
        go : ((k : Kind) × (i : ℕ) × IsIn (n.0, k, i) r.list) ⊎ ((k : Kind) (i : ℕ) →
            IsIn (n.0, k, i) r.list → ⊥) → Listed (n ∷ ns)
        go (inl t) = record {
          list = r.list;
          once = r.once;
          same = λ m. (there m, λ h. inr ((r.same m).1 h));
        }
          where
            there : (m : NodeName × Kind × ℕ) → IsIn m (n ∷ ns) → IsIn m r.list
            there m (inr h) = (r.same m).0 h
            there m (inl e) =
                let u = one n.0 t.0 n.1 t.1 n.2 (inr ((r.same (n.0, t.0, t.1)).1 t.2)) (inl refl) in
                subst (λ m. IsIn m r.list) (sym e) (subst (λ k. IsIn (n.0, k, n.2) r.list) u.0
                (subst (λ i. IsIn (n.0, t.0, i) r.list) u.1 t.2))
        go (inr f) = record {
          list = n ∷ r.list;
          once = (f n.1 n.2, r.once);
          same = λ m. (there m, back m);
        }
          where
            there : (m : NodeName × Kind × ℕ) → IsIn m (n ∷ ns) → IsIn m (n ∷ r.list)
            there m (inl e) = inl e
            there m (inr h) = inr ((r.same m).0 h)

            back : (m : NodeName × Kind × ℕ) → IsIn m (n ∷ r.list) → IsIn m (n ∷ ns)
            back m (inl e) = inl e
            back m (inr h) = inr ((r.same m).1 h)

-- ---- the entry

entry_of : (a b : NodeName) (r : Rule) → a ≢ b → (e : Entry) × IsNamed e a b × (e.rule ≡ r)
entry_of a b r d = by (comes_before a b) (comes_before b a) refl refl
  where
    by : (x y : Bool) → comes_before a b ≡ x → comes_before b a ≡ y →
        (e : Entry) × IsNamed e a b × (e.rule ≡ r)
    by true y h h' = (
      record { rule = r; first = a; second = b },
      record { ordered = h; pair = inl (refl, refl) },
      refl,
    )
    by false true h h' = (
      record { rule = r; first = b; second = a },
      record { ordered = h'; pair = inr (refl, refl) },
      refl,
    )
    by false false h h' = absurd (d (one_name a b h h'))

-- ---- the step

-- a step of a pair by an entry, whose net lists each node once
pub record Step (M : NamedNet NodeName) (ticket : ℕ) (f g : NodeName) (r : Rule) : Type 0 where
  pub entry : Entry
  pub after : NamedNet NodeName
  pub step : IsEntryStep M ticket entry after
  pub once : IsOnce after.nodes
  pub first : step.f ≡ f
  pub second : step.g ≡ g
  pub rule : entry.rule ≡ r

pub some_step : (M : NamedNet NodeName) (ticket : ℕ) → IsNet M → AreNamedBefore M ticket →
    (f g : NodeName) (r : Rule) → IsActive M f g r → Step M ticket f g r
some_step M ticket is_net before f g r a =
    let born : ℕ → NodeName = λ at. Born ticket at in
    let fresh : IsFresh M born = fresh_names M ticket before in
    let x = step_next name_same name_test born M f g a.k a.i a.l a.j r is_net a.faces fresh a.fits
    in
    let kept =
    net_kept name_same name_test born M f g a.k a.i a.l a.j r is_net a.faces fresh a.fits x.0
    x.1.rewrites in
    let l = listed x.0.nodes kept.one_node in
    let e = entry_of f g r (λ q. is_net.apart (slot f 0)
    (subst (λ g. Linked M (slot f 0) (slot g 0)) (sym q) a.faces.linked)) in
    let y = x.1.rewrites in
    record {
      entry = e.0;
      after = record { nodes = l.list; free_ports = x.0.free_ports; links = x.0.links };
      step = record {
        f = f;
        g = g;
        named = e.1;
        step = subst (λ r. IsStep born M f g r (record {
          nodes = l.list;
          free_ports = x.0.free_ports;
          links = x.0.links;
        })) (sym e.2) (record {
          active = a;
          rewrites = record {
            free_ports = y.free_ports;
            nodes = λ x k i. (
              λ h. (y.nodes x k i).0 ((l.same (x, k, i)).1 h),
              λ h. (l.same (x, k, i)).0 ((y.nodes x k i).1 h),
            );
            links = y.links;
          };
        });
      };
      once = l.once;
      first = refl;
      second = refl;
      rule = e.2;
    }

-- ---- the turn

-- a turn that rewrites the pair that a chain meets
pub record StepTurn (heads : ℕ) (M : NamedNet NodeName) (ticket : ℕ) (F : List Frame) (s : Subterm)
    (ss : List Subterm) (n : ℕ) : Type 0 where
  pub entry : Entry
  pub after : NamedNet NodeName
  pub turn : Turn heads M ticket (asks F (s ∷ ss) n) (entry ∷ []) [] after (asks F (s ∷ ss) n)

pub step_turn : (heads : ℕ) (M : NamedNet NodeName) (ticket : ℕ) (F : List Frame) (s : Subterm)
    (ss : List Subterm) (n : ℕ) → IsNet M → AreNamedBefore M ticket → length F < heads →
    (f g : NodeName) (r : Rule) → IsActive M f g r →
    Ends M s.port (asked s.levels n) (met f g r) → StepTurn heads M ticket F s ss n
step_turn heads M ticket F s ss n is_net before b f g r a e =
    let x = some_step M ticket is_net before f g r a in
    let e1 = subst (λ f. Ends M s.port (asked s.levels n) (met f g r)) (sym x.first) e in
    let e2 = subst (λ g. Ends M s.port (asked s.levels n) (met x.step.f g r)) (sym x.second) e1 in
    let e3 = subst (λ r. Ends M s.port (asked s.levels n) (met x.step.f x.step.g r)) (sym x.rule) e2
    in
    record {
      entry = x.entry;
      after = x.after;
      turn =
          rewrites (record {
            step = x.step;
            ends = record { below = b; ends = e3 };
            once = x.once;
          });
    }
