-- The same net, however its lists are ordered, has the same pairs and the same runs.
use Rattle.std.proofs.Common.{ℕ, List, [], ◌∷◌, inl, inr}
use Rattle.ol_net.specs.declared.parts.Rule.{Rule}
use Rattle.ol_net.specs.Nets.{NamedNet, SameNet}
use Rattle.ol_net.specs.Pairs.{IsActive, IsStuck, HasStuck, IsComplete}
use Rattle.ol_rules.specs.declared.journal.NodeName.{NodeName}
use Rattle.ol_rules.specs.declared.journal.Entry.{Entry}
use Rattle.ol_rules.specs.Rewriting.{action_of, IsStep}
use Rattle.ol_rules.specs.Runs.{IsLead, IsLeadRun, end, then, IsOneThread}
use Rattle.ol_rules.proofs.Relation.{same_refl, same_sym, faces_same, rewrites_same}

module _ {A : Type 0} (M N : NamedNet A) (s : SameNet M N) where
  pub active_same : (f g : A) (r : Rule) → IsActive M f g r → IsActive N f g r
  active_same f g r a = record {
    k = a.k;
    i = a.i;
    l = a.l;
    j = a.j;
    faces = faces_same M N f g a.k a.l a.i a.j s a.faces;
    fits = a.fits;
  }

  pub stuck_same : (f g : A) → IsStuck M f g → IsStuck N f g
  stuck_same f g a = record {
    k = a.k;
    i = a.i;
    l = a.l;
    j = a.j;
    faces = faces_same M N f g a.k a.l a.i a.j s a.faces;
    first = a.first;
    second = a.second;
  }

  pub step_same : (born : ℕ → A) (f g : A) (r : Rule) (P : NamedNet A) → IsStep born M f g r P → IsStep born N f g r P
  unfolding active_same
  step_same born f g r P t = record {
    active = active_same f g r t.active;
    rewrites = rewrites_same born f g t.active.k t.active.i t.active.l (action_of r t.active.j) M N P s t.rewrites;
  }

pub complete_same : {A : Type 0} (M N : NamedNet A) → SameNet M N → IsComplete M → IsComplete N
complete_same M N s c = λ f g r a. c f g r (active_same N M (same_sym M N s) f g r a)

pub has_stuck_same : {A : Type 0} (M N : NamedNet A) (n : ℕ) → SameNet M N → HasStuck M n → HasStuck N n
has_stuck_same M N n s h = record {
  pairs = h.pairs;
  count = h.count;
  different = h.different;
  all = λ f g. (
    (λ p. stuck_same M N s f g ((h.all f g).0 p)),
    (λ p. (h.all f g).1 (stuck_same N M (same_sym M N s) f g p)),
  );
}

pub lead_same : (M N : NamedNet NodeName) (e : Entry) → SameNet M N → IsLead M e → IsLead N e
lead_same M N e s d = record {
  f = d.f;
  g = d.g;
  named = d.named;
  active = active_same M N s d.f d.g e.rule d.active;
  least = λ f g r a. d.least f g r (active_same N M (same_sym M N s) f g r a);
}

-- leads from a net are leads from the same net, and lead to the same
pub record LeadsAlike (N : NamedNet NodeName) (t : ℕ) (es : List Entry) (P : NamedNet NodeName) : Type 0 where
  pub net : NamedNet NodeName
  pub run : IsLeadRun N t es net
  pub same : SameNet P net

pub leads_same : (M N P : NamedNet NodeName) (t : ℕ) (es : List Entry) → SameNet M N →
    IsLeadRun M t es P → LeadsAlike N t es P
leads_same M N P t [] s end = record { net = N; run = end; same = s }
leads_same M N P t (e ∷ es) s (then {M = Q} d st run) = record {
  net = P;
  run = then (lead_same M N e s d) (record {
    f = st.f;
    g = st.g;
    named = st.named;
    step = step_same M N s _ st.f st.g e.rule Q st.step;
  }) run;
  same = same_refl P;
}

pub record OneThreadAlike (N : NamedNet NodeName) (fuel : ℕ) (journal : List Entry)
    (P : NamedNet NodeName) : Type 0 where
  pub net : NamedNet NodeName
  pub run : IsOneThread N fuel journal net
  pub same : SameNet P net

-- the one-thread run from a net is that from the same net, and leads to the same
pub one_thread_same : (M N P : NamedNet NodeName) (fuel : ℕ) (journal : List Entry) → SameNet M N →
    IsOneThread M fuel journal P → OneThreadAlike N fuel journal P
one_thread_same M N P fuel journal s o =
    let k = leads_same M N P 0 journal s o.leads in
    record {
      net = k.net;
      run = record {
        leads = k.run;
        within = o.within;
        ended = elim o.ended [ inl c ↦ inl (complete_same P k.net k.same c) | inr e ↦ inr e ];
      };
      same = k.same;
    }
