-- What the lines of counts say: no pair is stuck, and no way of contracting families at once has fewer steps than `demand`.
use Rattle.std.proofs.Common.{◌≡◌, ℕ, List, Option, String, Global, ◌⊎◌, inl, inr, sym, ap, ◌∙◌, subst}
use Rattle.std.specs.Prelude.{[], ◌∷◌, length, true}
use Rattle.ol_beta.specs.Leftmost.{IsNormal}
use Rattle.ol_law_optimality.proofs.Labelling.{labelled, leftmost_is_labelled}
use Rattle.ol_io.specs.Outside.{Appended}
use Rattle.ol_law_optimality.specs.FirstHeads.{HasFirstHeads, HaveHeads}
use Rattle.ol_law_optimality.proofs.FirstHeadsPrinted.{filled_has_heads, heads_found, no_shorter_reduction, normal_has_heads}
use Rattle.ol_law_optimality.proofs.FirstHeadsReached.{no_longer_to, as_short_to}
use Rattle.ol_law_optimality.proofs.Demanding.{is_no_longer, is_as_short}
use Rattle.ol_law_optimality.proofs.Steps.{leftmost_families_are_families}
use Rattle.ol_law_confluence.proofs.Lines.{holes_are_no_text}
use Rattle.ol_law_confluence.proofs.Read.{one_line, line_is_normal_form}
use Rattle.ol_law_confluence.specs.NormalForms.{by_names_of, IsNormalFormOf}
use Rattle.ol_law_meaning.specs.Shows.{LeftmostReduces}
use Rattle.ol_net.specs.declared.parts.Rule.TheVariants as rule
use Rattle.ol_parse.specs.Grammar.{Named}
use Rattle.ol_parse.specs.Numbered.{names_of, number}
use Rattle.ol_parse.specs.Parsed.{AreNames}
use Rattle.ol_parse.specs.Texts.{IsText}
use Rattle.ol_parse.proofs.Words.{names_good}
use Rattle.ol_readback.specs.Terms.{HasAllHeads}
use Rattle.ol_readback.specs.declared.answers.ReadNode.{ReadNode}
use Rattle.ol_readback.specs.declared.answers.ReadNode.TheVariants as node
use Rattle.ol_rules.proofs.Relation.{same_refl}
use Rattle.ol_rules.specs.Counting.{counts_of, times_applied}
use Rattle.ol_term.specs.Trees.{Tree}
use Rattle.ol_term.specs.declared.translations.Translation.{Translation}
use Rattle.ol_translate.proofs.Whole.{translation_net}
use Rattle.ol_translate.specs.Names.{HasNames}
use Rattle.ol_translate.specs.Translation.{translation_of}
use Rattle.ol_law_levels.proofs.Names.{count_is_none}
use Rattle.ol_law_levels.proofs.TermRuns.{no_pair_is_stuck_in_order}
use Rattle.ol_words.specs.declared.jobs.Job.{Job}
use Rattle.ol_words.specs.declared.jobs.Job.TheVariants as jobs
use Rattle.ol_cli.proofs.DemandRuns.{is_start}
use Rattle.ol_cli.proofs.NormalLines.{run_printed, demand_printed, file_of}
use Rattle.ol_law_meaning.proofs.FileNames.{file_names}
use Rattle.ol_cli.specs.Demand.{Demands}
use Rattle.ol_cli.specs.NormalForms.{PrintsCounts, CountsSay, NoneIsStuck, AreFewest, BetasAreFewest, AreFewestForHeads, BetasAreFewestForHeads}
use Rattle.ol_cli.specs.Run.{Prints}
use Rattle.ol_cli.specs.Sources.{PrintsTree, DemandsTree, TellsTree, WritesTree}
use Rattle.ol_cli.specs.Texts.{answer_text}

-- ---- no pair is stuck

module _ {translation : Translation} {t : Tree} {names : List (List ℕ)} (h : HasNames t (length names))
    {fuel heads : ℕ} {text : List ℕ} where
  run_has_none : (p : Prints translation t names fuel heads text) → p.shows.stuck ≡ 0
  run_has_none p =
      count_is_none p.ends.net
      ((no_pair_is_stuck_in_order translation t (length names) h).0 fuel p.ends.journal p.ends.net p.ends.run)
      p.shows.stuck p.shows.counted

  demand_has_none : (d : Demands translation t names fuel heads text) → d.stuck ≡ 0
  demand_has_none d =
      let r = d.ends.run in
      count_is_none d.ends.net
      ((no_pair_is_stuck_in_order translation t (length names) h).1 heads r.turns d.ends.journal r.asked_places
      d.ends.net r.last r.run) d.stuck d.counted

has_names : {bytes : List ℕ} {source : Named} → IsText bytes source →
    HasNames (number source) (length (names_of source))
has_names {bytes} {source} is = file_names bytes (number source) (names_of source) (file_of is)

module _ {bytes : List ℕ} {source : Named} (is : IsText bytes source) {translation : Translation} {fuel heads : ℕ}
    {text : List ℕ} (old new : Option (List ℕ)) (a : Appended old text new) where
  run_counts : PrintsTree translation (number source) (names_of source) fuel heads text →
      CountsSay (λ line beta. Unit {0}) old new
  unfolding run_printed
  run_counts p = record {
    line = p.prints.shows.term;
    counts = counts_of p.prints.ends.journal;
    one = one_line is (run_printed p);
    written = subst (λ t. Appended old t new)
        (p.prints.shows.written
        ∙ ap (answer_text p.prints.shows.term (counts_of p.prints.ends.journal)) (run_has_none (has_names is) p.prints)) a;
    says = tt;
  }

  demand_counts : (d : DemandsTree translation (number source) (names_of source) fuel heads text) → (Says : List ℕ → ℕ → Type 0) →
      Says d.demands.term (times_applied rule.Beta d.demands.ends.journal) → CountsSay Says old new
  unfolding demand_printed
  demand_counts d Says says = record {
    line = d.demands.term;
    counts = counts_of d.demands.ends.journal;
    one = one_line is (demand_printed d);
    written = subst (λ t. Appended old t new)
        (d.demands.written
        ∙ ap (answer_text d.demands.term (counts_of d.demands.ends.journal)) (demand_has_none (has_names is) d.demands)) a;
    says = says;
  }

module _ {bytes : List ℕ} {source : Named} (is : IsText bytes source) (old new : Option (List ℕ))
    (text : List ℕ) (a : Appended old text new) where
  none_of : (job : Job) → PrintsCounts job → TellsTree job (number source) (names_of source) text →
      CountsSay (λ line beta. Unit {0}) old new
  none_of (jobs.Run tr w f q name) k h = run_counts is old new a h
  none_of (jobs.Gen tr true n) k h = run_counts is old new a h
  none_of (jobs.Demand tr f q name) k h = demand_counts is old new a h (λ line beta. Unit {0}) tt
  none_of _ k h = absurd k

pub writes_no_stuck : (words : List (String Global)) (bytes : List ℕ) (old new : Option (List ℕ)) →
    WritesTree words bytes old new → NoneIsStuck words bytes old new
writes_no_stuck words bytes old new w job j k source is =
    let r = w job (number source) (names_of source) j (file_of is) in
    none_of is old new r.0 r.2 job k r.1

-- ---- the fewest steps

all_or_not : (ns : List ReadNode) → HasAllHeads ns ⊎ (HasAllHeads ns → ⊥)
all_or_not [] = inl tt
all_or_not (node.Head l v k ∷ ns) = all_or_not ns
all_or_not (node.NoHead ∷ ns) = inr (λ h. h)
all_or_not (node.Cut ∷ ns) = inr (λ h. h)

-- of a demand run of the source's own net, of which this line is printed
fewest : (translation : Translation) (source : Named) (fuel heads : ℕ) (text : List ℕ) → AreNames (names_of source) →
    HasNames (number source) (length (names_of source)) →
    (d : Demands translation (number source) (names_of source) fuel heads text) →
    ((result : Named) → IsText d.term result → IsNormalFormOf source result) →
    AreFewest source d.term (times_applied rule.Beta d.ends.journal)
fewest translation source fuel heads text good h d form =
    let names = names_of source in
    let N = translation_of translation (number source) (length names) in
    let is_net = translation_net translation (number source) (length names) h in
    let start = is_start translation (number source) names is_net in
    let r = d.ends.run in (
      record {
        plain = λ v l n.
            no_shorter_reduction translation heads (number source) v l (normal_has_heads v n heads) (length names) h N is_net
            (same_refl N) start r.turns d.ends.journal r.asked_places d.ends.net r.last r.run;
        families = λ T e own V ds f n.
            is_no_longer translation T V ds f n own (number source) e (length names) h N is_net (same_refl N) start heads
            r.turns d.ends.journal r.asked_places d.ends.net r.last r.run;
      },
      λ result is T e own. elim (all_or_not d.ends.tree) [
        | inl all ↦
            let v = form result is in
            let leads = v.1.leftmost in
            let l = leftmost_is_labelled T (by_names_of source result)
            (subst (λ t. LeftmostReduces t (by_names_of source result)) (sym e) leads) in
            let n = subst IsNormal (sym l.3) v.1.is_normal in
            let x = is_as_short translation T l.0 l.1 l.2 n own (number source) e (length names) h N is_net (same_refl N)
            start heads d.ends.journal d.ends.tree d.ends.net r all in
            (l.0, x.0, leftmost_families_are_families T l.0 x.0 x.1, n, x.2)
        | inr holes ↦ absurd (holes (holes_are_no_text names d.ends.tree d.term good d.shown result is))
      ],
    )

pub writes_fewest : (words : List (String Global)) (bytes : List ℕ) (old new : Option (List ℕ)) →
    WritesTree words bytes old new → BetasAreFewest words bytes old new
unfolding demand_printed
writes_fewest words bytes old new w translation fuel heads name j source is =
    let r = w (jobs.Demand translation fuel heads name) (number source) (names_of source) j (file_of is) in
    demand_counts is old new r.2 r.1 (AreFewest source)
    (fewest translation source fuel heads r.0 (names_good bytes source is) (has_names is) r.1.demands
    (line_is_normal_form is (demand_printed r.1)))

-- ---- and for so many heads

-- of a demand run of the source's own net, of which this line is printed
fewest_for_heads : (translation : Translation) (source : Named) (fuel heads : ℕ) (text : List ℕ) →
    HasNames (number source) (length (names_of source)) →
    (d : DemandsTree translation (number source) (names_of source) fuel heads text) →
    AreFewestForHeads heads source d.demands.term (times_applied rule.Beta d.demands.ends.journal)
fewest_for_heads translation source fuel heads text h d =
    let names = names_of source in
    let N = translation_of translation (number source) (length names) in
    let is_net = translation_net translation (number source) (length names) h in
    let start = is_start translation (number source) names is_net in
    let e = d.demands.ends in
    let r = e.run in
    record {
      fewest = record {
        plain = λ v l s.
            no_shorter_reduction translation heads (number source) v l s (length names) h N is_net (same_refl N) start
            r.turns e.journal r.asked_places e.net r.last r.run;
        families = λ T is own V ds f s.
            no_longer_to translation heads T V ds f s own (number source) is (length names) h N is_net (same_refl N) start
            r.turns e.journal r.asked_places e.net r.last r.run;
      };
      places = e.tree;
      shown = d.demands.shown;
      found = λ can. heads_found translation heads (number source) can.0 can.1 can.2 (length names) h N is_net (same_refl N)
          start e.journal e.tree e.net r;
      as_long = λ all T is own.
          let s = filled_has_heads true d.says.tree d.says.reduct d.says.fills heads
          (subst (HaveHeads heads) (sym d.says.is_list) all) in
          let l = labelled d.says.reduces T is in
          let x = as_short_to translation heads T l.0 l.1 l.2 (subst (λ v. HasFirstHeads heads v) (sym l.3) s) own
          (number source) is (length names) h N is_net (same_refl N) start e.journal e.tree e.net r in
          (x.1, x.0, leftmost_families_are_families T x.1 x.0 x.2, x.3, x.4);
    }

pub writes_fewest_for_heads : (words : List (String Global)) (bytes : List ℕ) (old new : Option (List ℕ)) →
    WritesTree words bytes old new → BetasAreFewestForHeads words bytes old new
unfolding demand_printed
writes_fewest_for_heads words bytes old new w translation fuel heads name j source is =
    let r = w (jobs.Demand translation fuel heads name) (number source) (names_of source) j (file_of is) in
    demand_counts is old new r.2 r.1 (AreFewestForHeads heads source)
    (fewest_for_heads translation source fuel heads r.0 (has_names is) r.1)
