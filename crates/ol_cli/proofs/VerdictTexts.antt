-- The texts of `certify` are those of verdicts, and it never tells that the results differ.
use Rattle.std.proofs.Common.{◌≡◌, ◌*◌, ◌<◌, ◌≤◌, ℕ, true, List, length, codes, refl, ap, ◌∙◌, subst}
use Rattle.ol_term.specs.declared.translations.Translation.{Translation}
use Rattle.ol_term.specs.Trees.{Tree, depth, term_size}
use Rattle.ol_rules.proofs.LeadRuns.{as_run}
use Rattle.ol_translate.specs.Names.{HasNames}
use Rattle.ol_readback.specs.Heads.{live}
use Rattle.ol_readback.specs.declared.answers.ReadNode.{ReadNode}
use Rattle.ol_readback.proofs.Forests.{tree_is_whole}
use Rattle.ol_law_meaning.specs.Meaning.{SaysOf}
use Rattle.ol_law_meaning.proofs.Based.{places_say}
use Rattle.ol_law_meaning.proofs.FileNames.{file_names}
use Rattle.ol_law_levels.proofs.Sources.{last_places}
use Rattle.ol_law_confluence.proofs.PrintedTrees.{never_differs}
use Rattle.ol_beta.specs.Verdicts.{IsVerdict}
use Rattle.ol_cli.specs.Run.{start_net_of_term, ReadsLast}
use Rattle.ol_cli.specs.SourceLaws.{CertifyNeverDiffers, CertifyTellsVerdict}
use Rattle.ol_beta.specs.declared.certifying.Verdict.TheVariants as verdict
use Rattle.ol_beta.specs.declared.certifying.Verdict.{Verdict}
use Rattle.ol_cli.specs.Texts.{count_line}
use Rattle.ol_cli.specs.Certify.{verdict_text, IsVerdictText, incomplete, deep, past, short, agreed}

-- ---- what `run` prints says of the term

pub says : (tr : Translation) (t : Tree) (names : List (List ℕ)) (fuel heads : ℕ)
    (tree : List ReadNode) → HasNames t (length names) → ReadsLast tr t names fuel heads tree →
    SaysOf t true tree
says tr t names fuel heads tree has r =
    let ran = as_run (start_net_of_term tr t names) r.ends.net 0 r.ends.journal r.ends.run.leads in
    let own =
    last_places tr t (length names) has r.ends.journal r.ends.net ran r.ends.complete heads (2 * live r.ends.net) tree
    r.read in
    let whole = tree_is_whole r.ends.net heads (2 * live r.ends.net) tree r.read in
    places_say tr t (length names) has true whole.tree tree whole.is_list own

pub certify_never_differs : CertifyNeverDiffers
certify_never_differs tr bytes t names f steps fuel heads tree last road h =
    never_differs (says tr t names fuel heads tree (file_names bytes t names f) last) h

-- ---- the texts of verdicts

module _ (t : Tree) (tree : List ReadNode) (steps : ℕ) (text : List ℕ) where
  -- the text of a verdict, where leftmost reduction ends in no other term than the tree's
  pub by_verdict : ((road : List (List ℕ)) → IsVerdict t tree steps (verdict.Differs road) → ⊥) → (v : Verdict) →
      IsVerdict t tree steps v → text ≡ verdict_text steps v → IsVerdictText t tree steps text
  by_verdict never (verdict.NotWhole place) h e = incomplete place h e
  by_verdict never (verdict.Deep d) h e =
      deep h.is_term (subst (λ d. 1000 < d) h.is h.above) (e ∙ ap (count_line (codes "deep")) h.is)
  by_verdict never (verdict.Past step size d) (has, p) e =
      past p.after p.road has.is_term has.shallow p.leads (subst (λ n. n ≤ steps) p.steps p.few) p.past
      (e ∙ ap (count_line (codes "past at step")) p.steps)
  by_verdict never verdict.Short (has, s) e =
      short s.after s.road has.is_term has.shallow s.leads s.steps s.within s.redex e
  by_verdict never (verdict.Differs road) h e = absurd (never road h)
  by_verdict never (verdict.Agreed road) (has, n) e =
      agreed road has.is_term has.shallow n.leads n.few n.within n.none e

  -- and the verdict of a text
  pub verdict_of : IsVerdictText t tree steps text →
      (v : Verdict) × IsVerdict t tree steps v × (text ≡ verdict_text steps v)
  verdict_of (incomplete place h e) = (verdict.NotWhole place, h, e)
  verdict_of (deep {u = u} i above e) =
      (verdict.Deep (depth u), record { term = u; is_term = i; is = refl; above = above }, e)
  verdict_of (past {u = u} v road i low leads few out e) = (
    verdict.Past (length road) (term_size v) (depth v),
    (
      record { term = u; is_term = i; shallow = low },
      record { road = road; after = v; leads = leads; steps = refl; few = few; measure = (refl, refl); past = out },
    ),
    e,
  )
  verdict_of (short {u = u} v road i low leads full within redex e) = (
    verdict.Short,
    (
      record { term = u; is_term = i; shallow = low },
      record { road = road; after = v; leads = leads; steps = full; within = within; redex = redex },
    ),
    e,
  )
  verdict_of (agreed {u = u} road i low leads few within none e) = (
    verdict.Agreed road,
    (record { term = u; is_term = i; shallow = low }, record { leads = leads; few = few; within = within; none = none }),
    e,
  )

pub certify_tells_verdict : CertifyTellsVerdict
certify_tells_verdict tr bytes t names f steps fuel heads tree last text = (
  verdict_of t tree steps text,
  λ r. by_verdict t tree steps text
      (λ road h. certify_never_differs tr bytes t names f steps fuel heads tree last road h) r.0 r.1 r.2,
)
