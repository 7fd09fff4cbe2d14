-- Beta steps of demand order are as many as some labels are different, where each that is seen is told by one of them
-- and each of them tells one that is seen by a question that is answered.
use Rattle.std.proofs.Common.{◌≡◌, ℕ, suc, inl, inr, List, [], ◌∷◌, ◌++◌, length, refl, sym, ap, ◌∙◌, subst}
use Rattle.ol_context.specs.Contexts.{Context, tail}
use Rattle.ol_demand.specs.Demands.{Asking, Turns}
use Rattle.ol_demand.specs.Laws.{IsStart}
use Rattle.ol_law_edges.specs.Edges.{IsIn, Joined}
use Rattle.ol_law_edges.specs.Edges as edges
use Rattle.ol_law_edges.proofs.Joining.{joined_image}
use Rattle.ol_law_optimality.proofs.Meeting.{Comes}
use Rattle.ol_law_optimality.proofs.Few.{named}
use Rattle.ol_law_optimality.proofs.SitesSeen.{IsNamed, met_at}
use Rattle.ol_law_levels.specs.Levels.{IsLevelled}
use Rattle.ol_law_levels.proofs.Runs.{same_levelled, start_levelled}
use Rattle.ol_law_levels.proofs.Terms.{term_is_levelled}
use Rattle.ol_net.specs.Nets.{NamedPort, slot, NamedNet, HasNode, Linked, IsNet, SameNet, port_under, net_under}
use Rattle.ol_net.specs.declared.parts.Kind.{Kind}
use Rattle.ol_net.specs.declared.parts.Rule.TheVariants as rule
use Rattle.ol_law_optimality.specs.Labels.{Label, Labelled, erased}
use Rattle.ol_law_optimality.specs.RouteLaws as routes
use Rattle.ol_law_optimality.specs.Redexes.{Carries, put}
use Rattle.ol_law_optimality.specs.Routes.{Crossing, rise, fall, Row, along, rises, falls, Route}
use Rattle.ol_law_optimality.specs.Seen.{Move, link, node, IsSeen, IsQuestion, IsAnswered}
use Rattle.ol_law_optimality.proofs.Asked.{betas_of_demand}
use Rattle.ol_law_optimality.proofs.Runs.{betas_are_routes}
use Rattle.ol_readback.specs.declared.answers.ReadNode.{ReadNode}
use Rattle.ol_rules.proofs.Relation.{same_sym}
use Rattle.ol_rules.proofs.Renaming.{node_to, link_to}
use Rattle.ol_rules.specs.Counting.{times_applied}
use Rattle.ol_rules.specs.declared.journal.Entry.{Entry}
use Rattle.ol_rules.specs.declared.journal.NodeName.{NodeName}
use Rattle.ol_rules.specs.declared.journal.NodeName.TheVariants.{Init}
use Rattle.ol_law_meaning.proofs.Followed.{net}
use Rattle.ol_law_meaning.specs.Sites.{Site}
use Rattle.ol_law_meaning.specs.Spots.{at, place}
use Rattle.ol_term.specs.declared.translations.Translation.{Translation}
use Rattle.ol_translate.specs.Names.{HasNames}
use Rattle.ol_translate.specs.Translation.{translation_of}
use Rattle.ol_law_optimality.specs.HeadFamilies.{HasSoManyDifferent}
use Rattle.ol_law_optimality.specs.Readings.{word_of, AreAlike, AreDifferent, moved}
use Rattle.ol_law_optimality.specs.Signs.{letter_of, Signs, onward, reversed, signs_of, Signed}
use Rattle.ol_law_optimality.proofs.Hearing.{AreLettered, rising}
use Rattle.ol_law_optimality.proofs.MetSeen.{SeenBy}
use Rattle.ol_law_optimality.proofs.Phases.{HaveLetters}
use Rattle.ol_law_optimality.proofs.Saying.{first_up, first_down, no_signs}
use Rattle.ol_law_optimality.proofs.Spelling.{alike_is_one}
use Rattle.ol_law_optimality.proofs.Told.{row_under, route_under, IsTold, told, told_one}

-- ---- what is seen under other names

pub record IsInto {B : Type 0} (m : ℕ → B) (N : NamedNet ℕ) (M : NamedNet B) : Type 0 where
  pub nodes : (x : ℕ) (k : Kind) (i : ℕ) → HasNode N x k i → HasNode M (m x) k i
  pub links : (p q : NamedPort ℕ) → Linked N p q → Linked M (port_under m p) (port_under m q)

module _ {B : Type 0} (m : ℕ → B) (N : NamedNet ℕ) (M : NamedNet B) (I : IsInto m N M) where
  row_into : {p q : NamedPort ℕ} {w : List (Crossing ℕ)} → Row N p w q →
      Row M (port_under m p) (row_under m w) (port_under m q)
  row_into (along {p = p} {q = q} l) = along (I.links p q l)
  row_into (rises {p = p} {x = x} {s = s} k i l h low r) =
      rises k i (I.links p (slot x (suc s)) l) (I.nodes x k i h) low (row_into r)
  row_into (falls {p = p} {x = x} {s = s} k i l h low r) =
      falls k i (I.links p (slot x 0) l) (I.nodes x k i h) low (row_into r)

  carries_into : (w : List (Crossing ℕ)) (c d : Context) → Carries N c w d → Carries M c (row_under m w) d
  carries_into [] c d e = e
  carries_into (rise x s ∷ w) c d t = (t.0, t.1, I.nodes x t.0 t.1 t.2, t.3, carries_into w _ d t.4)
  carries_into (fall x s ∷ w) c d t = (t.0, t.1, I.nodes x t.0 t.1 t.2, t.3, t.4, t.5, carries_into w t.4 d t.6)

  move_into : (u v : NamedPort ℕ × Context) → Move N u v →
      Joined (Move M) (port_under m u.0, u.1) (port_under m v.0, v.1)
  move_into u v (link {p = p} {q = q} l) = edges.on edges.here (link (I.links p q l))
  move_into u v (node {x = x} k i h low e) = edges.on edges.here (node k i (I.nodes x k i h) low e)

  pub seen_into : (p : ℕ) (c : Context) (s : Route ℕ) → IsSeen N p c s → IsSeen M p c (route_under m s)
  seen_into p c s S = record {
    redex = record {
      route = record {
        i = S.redex.route.i;
        j = S.redex.route.j;
        application = I.nodes s.from _ S.redex.route.i S.redex.route.application;
        abstraction = I.nodes s.to _ S.redex.route.j S.redex.route.abstraction;
        row = row_into S.redex.route.row;
      };
      begin = S.redex.begin;
      last = S.redex.last;
      begin_is = S.redex.begin_is;
      last_is = S.redex.last_is;
      carries = λ c. carries_into s.row (put S.redex.begin c) (put S.redex.last c) (S.redex.carries c);
    };
    rest = S.rest;
    on_walk = joined_image (λ (u : NamedPort ℕ × Context). (port_under m u.0, u.1)) move_into S.on_walk;
  }

into : (K N : NamedNet ℕ) → SameNet K N → IsInto Init N (net_under Init K)
into K N same = record {
  nodes = λ x k i h. node_to Init K x k i ((same.nodes x k i).1 h);
  links = λ p q l. link_to Init K p q ((same.links p q).1 l);
}

-- ---- a route tells one word

module _ {B : Type 0} (m : ℕ → B) (one : (x y : ℕ) → m x ≡ m y → x ≡ y) where
  rise_one : {x y : B} {s t : ℕ} {w v : List (Crossing B)} →
      ◌≡◌ {A = List (Crossing B)} (rise x s ∷ w) (rise y t ∷ v) → (x ≡ y) × (s ≡ t) × (w ≡ v)
  rise_one e = (cc, cc, cc)

  fall_one : {x y : B} {s t : ℕ} {w v : List (Crossing B)} →
      ◌≡◌ {A = List (Crossing B)} (fall x s ∷ w) (fall y t ∷ v) → (x ≡ y) × (s ≡ t) × (w ≡ v)
  fall_one e = (cc, cc, cc)

  row_one : (w v : List (Crossing ℕ)) → row_under m w ≡ row_under m v → w ≡ v
  row_one [] [] e = refl
  row_one [] (rise x s ∷ v) e = absurd (cc)
  row_one [] (fall x s ∷ v) e = absurd (cc)
  row_one (rise x s ∷ w) [] e = absurd (cc)
  row_one (fall x s ∷ w) [] e = absurd (cc)
  row_one (rise x s ∷ w) (fall y t ∷ v) e = absurd (cc)
  row_one (fall x s ∷ w) (rise y t ∷ v) e = absurd (cc)
  row_one (rise x s ∷ w) (rise y t ∷ v) e =
      let z = rise_one e in
      ap (λ x. rise x s ∷ w) (one x y z.0) ∙ ap (λ s. rise y s ∷ w) z.1
      ∙ ap (λ w. rise y t ∷ w) (row_one w v z.2)
  row_one (fall x s ∷ w) (fall y t ∷ v) e =
      let z = fall_one e in
      ap (λ x. fall x s ∷ w) (one x y z.0) ∙ ap (λ s. fall y s ∷ w) z.1
      ∙ ap (λ w. fall y t ∷ w) (row_one w v z.2)

  from_one : (s u : Route ℕ) → route_under m s ≡ route_under m u → s.from ≡ u.from
  from_one s u e = one s.from u.from (ap (λ (r : Route B). r.from) e)

  rows_one : (s u : Route ℕ) → route_under m s ≡ route_under m u → s.row ≡ u.row
  rows_one s u e = row_one s.row u.row (ap (λ (r : Route B). r.row) e)

module _ (N : NamedNet ℕ) (n : IsNet N) (letter : ℕ → ℕ → ℕ) where
  signed_one : (w : List (Crossing ℕ)) (a b : Signs) → Signed N letter w a → Signed N letter w b → a ≡ b
  signed_one [] a b S T = sym (no_signs N n letter S) ∙ no_signs N n letter T
  signed_one (rise x s ∷ w) a b S T =
      let f = first_up N n letter S in
      let g = first_up N n letter T in
      let e = (n.one_node x f.kind_is g.kind_is f.index g.index f.node g.node).0 in
      f.is ∙ ap (λ k. rising letter k x s ++ f.after) e
      ∙ ap (λ a. rising letter g.kind_is x s ++ a) (signed_one w f.after g.after f.rest g.rest) ∙ sym g.is
  signed_one (fall x s ∷ w) a b S T =
      let f = first_down N n letter S in
      let g = first_down N n letter T in
      let e = (n.one_node x f.kind_is g.kind_is f.index g.index f.node g.node).0 in
      f.is ∙ ap (λ k. reversed (rising letter k x s) ++ f.after) e
      ∙ ap (λ a. reversed (rising letter g.kind_is x s) ++ a) (signed_one w f.after g.after f.rest g.rest)
      ∙ sym g.is

module _ {B : Type 0} (m : ℕ → B) (M : NamedNet B) (n : IsNet M) (τ : Translation) (T : Labelled)
    (names : ℕ) (h : HasNames (erased T) names) (I : IsNamed m (translation_of τ (erased T) names) M)
    (letter : ℕ → ℕ → ℕ) (are : AreLettered τ letter T 0 0 0) where
  pub told_alike : (s : Route B) (v w : Signs) → IsTold m M n τ T names h I letter are s v →
      IsTold m M n τ T names h I letter are s w → AreAlike v w
  told_alike s v w a b =
      let e = sym a.is ∙ b.is in
      let f = from_one m I.one a.route b.route e in
      let g = rows_one m I.one a.route b.route e in
      let z = signed_one (translation_of τ (erased T) names) (net τ (erased T) names h) letter b.route.row
      a.signs b.signs (subst (λ w. Signed (translation_of τ (erased T) names) letter w a.signs) g a.signed) b.signed in
      λ r x. sym (a.alike r x) ∙ ap (λ y. moved r (onward (letter_of (letter y 0)) ∷ a.signs) x) f
      ∙ ap (λ a. moved r (onward (letter_of (letter b.route.from 0)) ∷ a) x) z ∙ b.alike r x

-- ---- labels for routes, each label for its own

module _ (ToldBy : Route NodeName → Label → Type 0) (alike : (s : Route NodeName) (d e : Label) → ToldBy s d →
    ToldBy s e → d ≡ e) (apart : (s u : Route NodeName) (d : Label) → ToldBy s d → ToldBy u d → s ≡ u)
    (ds : List Label) where
  pub record Labels (ss : List (Route NodeName)) : Type 0 where
    pub labels : List Label
    pub different : AreDifferent labels
    pub within : (e : Label) → IsIn e labels → IsIn e ds
    pub count : length ss ≡ length labels
    pub back : (e : Label) → IsIn e labels → (s : Route NodeName) × IsIn s ss × ToldBy s e
    pub each : (s : Route NodeName) → IsIn s ss → (e : Label) × IsIn e labels × ToldBy s e

  one_more_label : (s : Route NodeName) (ss : List (Route NodeName)) → routes.AreDifferent (s ∷ ss) → Labels ss →
      (e : Label) → IsIn e ds → ToldBy s e → Labels (s ∷ ss)
  one_more_label s ss d x e i t = record {
    labels = e ∷ x.labels;
    different = (
      (λ j.
          let b = x.back e j in
          d.0 (subst (λ u. IsIn u ss) (sym (apart s b.0 e t b.2)) b.1)),
      x.different,
    );
    within = in';
    count = ap suc x.count;
    back = back';
    each = each';
  }
    where
      in' : (f : Label) → IsIn f (e ∷ x.labels) → IsIn f ds
      in' f (inl q) = subst (λ f. IsIn f ds) (sym q) i
      in' f (inr j) = x.within f j

      back' : (f : Label) → IsIn f (e ∷ x.labels) → (u : Route NodeName) × IsIn u (s ∷ ss) × ToldBy u f
      back' f (inl q) = (s, inl refl, subst (ToldBy s) (sym q) t)
      back' f (inr j) = let b = x.back f j in (b.0, inr b.1, b.2)

      each' : (u : Route NodeName) → IsIn u (s ∷ ss) → (f : Label) × IsIn f (e ∷ x.labels) × ToldBy u f
      each' u (inl q) = (e, inl refl, subst (λ u. ToldBy u e) (sym q) t)
      each' u (inr j) = let b = x.each u j in (b.0, inr b.1, b.2)

  pub labels_of : (ss : List (Route NodeName)) → routes.AreDifferent ss →
      ((s : Route NodeName) → IsIn s ss → (e : Label) × IsIn e ds × ToldBy s e) → Labels ss
  labels_of [] d f = record {
    labels = [];
    different = tt;
    within = λ e i. absurd i;
    count = refl;
    back = λ e i. absurd i;
    each = λ s i. absurd i;
  }
  labels_of (s ∷ ss) d f =
      let x = f s (inl refl) in
      one_more_label s ss d (labels_of ss d.1 (λ u i. f u (inr i))) x.0 x.1 x.2

  -- as many routes as different labels, where each label has one of them
  pub counted : (ss : List (Route NodeName)) → routes.AreDifferent ss →
      ((s : Route NodeName) → IsIn s ss → (e : Label) × IsIn e ds × ToldBy s e) →
      ((e : Label) → IsIn e ds → (s : Route NodeName) × IsIn s ss × ToldBy s e) → (n : ℕ) → length ss ≡ n →
      HasSoManyDifferent ds n
  counted ss d f g n e =
      let x = labels_of ss d f in
      (x.labels, x.different, (λ l. (x.within l, λ i. all x l i)), sym e ∙ x.count)
    where
      all : (x : Labels ss) (l : Label) → IsIn l ds → IsIn l x.labels
      all x l i =
          let y = g l i in
          let z = x.each y.0 y.1 in
          subst (λ l. IsIn l x.labels) (alike y.0 z.0 l z.2 y.2) z.1

-- ---- a run

pub start_is_levelled : (τ : Translation) (T : Labelled) (names : ℕ) → HasNames (erased T) names → (K : NamedNet ℕ) →
    SameNet K (translation_of τ (erased T) names) → IsLevelled (net_under Init K)
start_is_levelled τ T names h K same = start_levelled K (same_levelled (translation_of τ (erased T) names) K
    (same_sym K (translation_of τ (erased T) names) same) (term_is_levelled τ (erased T) names h))

module _ (τ : Translation) (T : Labelled) (names : ℕ) (h : HasNames (erased T) names) (K : NamedNet ℕ)
    (n : IsNet K) (same : SameNet K (translation_of τ (erased T) names)) (start : IsStart (net_under Init K))
    (letter : ℕ → ℕ → ℕ) (atoms : HaveLetters (translation_of τ (erased T) names) letter)
    (are : AreLettered τ letter T 0 0 0) where
  pub I : IsNamed Init (translation_of τ (erased T) names) (net_under Init K)
  I = named K (translation_of τ (erased T) names) same

  -- what is read along the route is alike to the label's signs
  abbrev pub ToldBy : Route NodeName → Label → Type 0
  ToldBy s e = (g : Signs) × IsTold Init (net_under Init K) start.net τ T names h I letter are s g × AreAlike g
      (signs_of e)

  pub alike : (s : Route NodeName) (d e : Label) → ToldBy s d → ToldBy s e → d ≡ e
  alike s d e a b = alike_is_one d e (λ r x. sym (a.2 r x)
      ∙ told_alike Init (net_under Init K) start.net τ T names h I letter are s a.0 b.0 a.1 b.1 r x ∙ b.2 r x)

  pub apart : (s u : Route NodeName) (d : Label) → ToldBy s d → ToldBy u d → s ≡ u
  apart s u d a b = told_one Init (net_under Init K) start.net τ T names h I letter are atoms s u a.0 b.0 a.1 b.1
      (λ r x. a.2 r x ∙ sym (b.2 r x))

  -- the word of a redex that is seen is that of the one to which the walk over the term comes
  pub seen_told : (s : Route NodeName) (p : ℕ) (c : Context) → IsSeen (net_under Init K) p c s → (P : Label → Type 0) →
      ((q : Site) (m : Comes τ (erased T) (at (place p) (c 0) (tail c)) q) → (d : Label) × P d
      × AreAlike (word_of T q m.matched) (signs_of d)) →
      (d : Label) × P d × ToldBy s d
  seen_told s p c S P f =
      let a = met_at Init (net_under Init K) start.net τ (erased T) names h I s p c S in
      let d = f a.at_site.site a.comes in (
        d.0,
        d.1,
        (
          word_of T a.at_site.site a.comes.matched,
          told Init (net_under Init K) start.net τ T names h I letter are s S.redex p c a,
          d.2,
        ),
      )

  -- what is seen over the term's own net
  pub seen_here : (p : ℕ) (c : Context) (word : Signs) (x : SeenBy τ T names h letter are p c word) (d : Label) →
      AreAlike word (signs_of d) → (s : Route NodeName) × IsSeen (net_under Init K) p c s × ToldBy s d
  seen_here p c word x d e = (
    route_under Init x.route,
    seen_into Init (translation_of τ (erased T) names) (net_under Init K)
        (into K (translation_of τ (erased T) names) same) p c x.route x.seen,
    (
      word,
      record {
        route = x.route;
        is = refl;
        has = x.seen.redex.route;
        signs = x.signs;
        signed = x.signed;
        alike = x.alike;
      },
      e,
    ),
  )

  -- So many turns, each of whose questions comes only to redexes with words among these labels; and each label is the
  -- word of one that is seen by a question that was answered.
  pub exactly : (ds : List Label) {many turns : ℕ} {journal : List Entry} {ps : List ReadNode}
      {M : NamedNet NodeName} {a : Asking} → (t : Turns (net_under Init K) many turns journal ps M a) →
      ((p : ℕ) (c : Context) → IsQuestion (net_under Init K) many p c → (q : Site)
      (m : Comes τ (erased T) (at (place p) (c 0) (tail c)) q) → (d : Label) × IsIn d ds
      × AreAlike (word_of T q m.matched) (signs_of d)) →
      ((d : Label) → IsIn d ds → (p : ℕ) × (c : Context) × IsAnswered t p c
      × (s : Route NodeName) × IsSeen (net_under Init K) p c s × ToldBy s d) →
      HasSoManyDifferent ds (times_applied rule.Beta journal)
  exactly ds {many} {turns} {journal} {ps} {M} {a} t f g =
      let L = start_is_levelled τ T names h K same in
      let d = betas_of_demand (net_under Init K) M many turns journal ps a start L t in
      let b = betas_are_routes (net_under Init K) M 0 journal start.net start.named d.0 in
      counted ToldBy alike apart ds b.0 b.1
      (λ s i.
      let x = b.3 s i in
      let k = d.1 x.1.0 s x.1.1 in
      seen_told s k.0 k.1 k.3 (λ d. IsIn d ds) (f k.0 k.1 k.2))
      (λ e j.
      let x = g e j in
      let y = d.2 x.0 x.1 x.2 x.3 x.4 in
      (x.3, b.4 y.0 x.3 y.1, x.5))
      (times_applied rule.Beta journal) b.2
