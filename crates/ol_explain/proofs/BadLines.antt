-- A journal that was followed to a line that is none of the grammar, and what `explain` says of it.
use Rattle.std.proofs.Common.{◌≡◌, ℕ, ◌+◌, ◌<◌, ◌≤◌, List, ◌++◌, length, length-drop, drop, None, ◌⊎◌, inl, inr}
use Rattle.std.proofs.Common.{refl, sym, ap, ◌∙◌, subst, arith}
use Rattle.std.specs.Prelude.{codes}
use Rattle.ol_net.specs.Graph.{Graph}
use Rattle.ol_view.specs.declared.answers.Check.TheVariants.{BadText}
use Rattle.ol_view.specs.declared.forms.Form.{Form}
use Rattle.ol_view.specs.Checks.{start_net_of_graph, IsFound}
use Rattle.ol_subjects.specs.declared.answers.End.TheVariants as end
use Rattle.ol_explain.specs.declared.following.Stop.TheVariants as stop
use Rattle.ol_orders.specs.declared.replaying.Replay.{Replay}
use Rattle.ol_explain.specs.Afters.{line_with}
use Rattle.ol_explain.specs.Explained.{IsExplainedOf, bad_text}
use Rattle.ol_explain.specs.Followed.{Stops}
use Rattle.ol_orders.specs.Replays.{net_here}
use Rattle.ol_explain.specs.Wanted.{IsReached, bytes_at, end_at}
use Rattle.ol_explain.specs.Wanted as wanted
use Rattle.ol_explain.specs.Fields.{IsBrokenBy, IsBadBy, broken, unordered}
use Rattle.ol_explain.proofs.Told.{at_good, IsNoLine}
use Rattle.ol_explain.proofs.Reasoned.{full}

pub at_the_header : (old : Graph) (text out : List ℕ) → IsFound (start_net_of_graph old) text (BadText 1) →
    IsBrokenBy None text 0 1 out → IsExplainedOf old text out end.BadText
at_the_header old text out f b = bad_text f (wanted.IsBadLine.header refl b.breaks b.wanted) (b.out_is
    ∙ ap (λ at. line_with (codes "bad text at line ") 1 ++ bytes_at at b.bytes ++ codes "\n")
    (let q : 0 + length b.before ≡ length b.before = omega arith in q))

module _ (old : Graph) (text : List ℕ) (most : ℕ) (r : Replay) (at : ℕ) (m : most ≡ 8000000) where
  pub at_the_line : (form : Form) → IsNoLine old text most r at form → (line : ℕ) → line ≡ length r.run.journal + 2 →
      (out : List ℕ) → IsBadBy form text at line out → IsExplainedOf old text out end.BadText
  at_the_line form n line l out b = go b
    where
      found : IsFound (start_net_of_graph old) text (BadText line)
      found = subst (λ line. IsFound (start_net_of_graph old) text (BadText line)) (sym l) n.found

      few : line < 8000002
      few = let w = n.below in omega arith

      reached : IsReached old text line form at (drop at text)
      reached = record {
        entries = r.run.journal;
        waves = n.waves;
        last = net_here r;
        begins = n.told;
        line_is = l;
        at_is = let y = length-drop at text in let w = n.within in omega arith;
      }

      go : IsBadBy form text at line out → IsExplainedOf old text out end.BadText
      go (broken b) = bad_text found (wanted.IsBadLine.breaks reached few b.breaks b.wanted) b.out_is
      go (unordered w o e) = bad_text found (wanted.IsBadLine.unordered reached few w o) e

  pub at_the_end : Stops old text most r at stop.Good → at < length text → (out : List ℕ) →
      out ≡ line_with (codes "bad text at line ") 8000002 ++ end_at at ++ codes "\n" → IsExplainedOf old text out end.BadText
  at_the_end s b out e =
      let g = at_good old text most r at s in
      let n : length r.run.journal ≡ 8000000 = ends g.ended in
      bad_text (full old text most r at s b m) (wanted.IsBadLine.full (record {
        entries = r.run.journal;
        waves = g.waves;
        last = net_here r;
        begins = g.told;
        line_is = omega arith;
        at_is = let y = length-drop at text in omega arith;
      }) refl (λ z. let q = ap length z in omega (arith, length-drop at text))) e
    where
      ends : (length r.run.journal ≡ most) ⊎ (length text ≤ at) → length r.run.journal ≡ 8000000
      ends (inl e) = e ∙ m
      ends (inr k) = absurd (omega arith)
