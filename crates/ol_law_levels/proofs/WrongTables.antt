-- A greater index in the net of one name applied to another breaks levels, a lower one doesn't.
-- For `wrong_tables_break_levels`.
use Rattle.std.proofs.Common.{◌≡◌, ℕ, zero, suc, ◌-◌, ◌<◌, ◌≤◌, Bool, List, ◌⊎◌, inl, inr, refl, ◌∙◌, subst, arith}
use Rattle.ol_law_edges.specs.Edges.{IsIn}
use Rattle.ol_net.specs.Nets.{NamedNet, NamedPort, slot, Linked}
use Rattle.ol_net.specs.declared.parts.Kind.{Kind}
use Rattle.ol_net.specs.declared.parts.Kind.TheVariants as kind
use Rattle.ol_term.specs.Trees.{Tree, EachOccurs}
use Rattle.ol_term.specs.Trees as tree
use Rattle.ol_term.specs.declared.translations.Translation.TheVariants.{One}
use Rattle.ol_translate.specs.Names.{HasNames}
use Rattle.ol_translate.specs.Translation.{translation_of}
use Rattle.ol_law_levels.specs.Levels.{CanStand, IsLevelled}
use Rattle.ol_law_levels.specs.WrongTables.{application_net, RightIndexesAreLevelled, GreaterIndexesAreNot}
use Rattle.ol_law_levels.specs.WrongTables.{MayHaveInPlace, LowerIndexesKeepLevels}
use Rattle.ol_law_levels.proofs.Terms.{term_is_levelled}

-- ---- the right ones

abbrev two_names : Tree
two_names = tree.app (tree.free 0) (tree.free 1)

each_occurs : EachOccurs 2 two_names
each_occurs zero b = refl
each_occurs (suc zero) b = refl
each_occurs (suc (suc k)) b = absurd (omega arith)

names : HasNames two_names 2
names = record { bound = refl; named = refl; each = each_occurs }

is_net_of : translation_of One two_names 2 ≡ application_net 1 0
is_net_of = refl

pub right_levelled : RightIndexesAreLevelled
right_levelled = (is_net_of, subst (λ N. IsLevelled N) is_net_of (term_is_levelled One two_names 2 names))

-- ---- greater ones

greater : (a b c d e i j : ℕ) → 0 ≡ a → b ≡ suc a → b ≡ c → c ≡ d - 1 → i < d → e ≡ d →
    (f : ℕ) → e ≡ suc f → j < f → (i ≤ 1) × (j ≤ 0)
greater a b c d e i j u v w x y z f s t = (omega arith, omega arith)

pub greater_not : GreaterIndexesAreNot
greater_not i j L =
    let app = L.stands 0 kind.App 0 (inl refl) in
    let argument = L.beside 0 kind.App 0 1 (inl refl) (omega arith) in
    let root = L.links (slot 0 2) (slot 2 1) (inl (inr (inl refl))) in
    let below = L.beside 2 kind.Croissant i 0 (inr (inr (inl refl))) (omega arith) in
    let croissant = L.stands 2 kind.Croissant i (inr (inr (inl refl))) in
    let wire = L.links (slot 3 1) (slot 2 0) (inl (inr (inr (inl refl)))) in
    let above = L.beside 3 kind.Bracket j 0 (inr (inr (inr (inl refl)))) (omega arith) in
    let bracket = L.stands 3 kind.Bracket j (inr (inr (inr (inl refl)))) in
    greater (L.depth (slot 0 0)) (L.depth (slot 0 2)) (L.depth (slot 2 1)) (L.depth (slot 2 0))
    (L.depth (slot 3 1)) i j app.0 argument.0 root.0 below.0 croissant wire.0
    (L.depth (slot 3 0)) above.0 bracket

-- ---- lower ones

lower_stands : (k : Kind) (i j d : ℕ) (out : Bool) → MayHaveInPlace k i j → CanStand k j d out →
    CanStand k i d out
lower_stands kind.Lam i j d out m c = (m ∙ c.0, c.1)
lower_stands kind.App i j d out m c = (m ∙ c.0, c.1)
lower_stands kind.Fan i j d out m c = omega arith
lower_stands kind.Croissant i j d out m c = omega arith
lower_stands kind.Bracket i j d out m c = omega arith
lower_stands kind.Eraser i j d out m c = tt

module _ {A : Type 0} where
  same_link : (N M : NamedNet A) → M.links ≡ N.links → (p q : NamedPort A) → Linked M p q →
      Linked N p q
  same_link N M e p q h = subst (λ ls. Within ls) e h
    where
      Within : List (NamedPort A × NamedPort A) → Type 0
      Within ls = IsIn (p, q) ls ⊎ IsIn (q, p) ls

  pub lower_keep : LowerIndexesKeepLevels A
  lower_keep N M e less L = record {
    depth = L.depth;
    is_out = L.is_out;
    links = λ p q h. L.links p q (same_link N M e p q h);
    stands = λ x k i h.
        let t = less x k i h in
        lower_stands k i t.0 (L.depth (slot x 0)) (L.is_out (slot x 0)) t.2 (L.stands x k t.0 t.1);
    beside = λ x k i s h b. let t = less x k i h in L.beside x k t.0 s t.1 b;
    root = L.root;
    names = L.names;
  }
