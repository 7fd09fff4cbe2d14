use Rattle.std.proofs.Common.{◌≡◌, ℕ, List, ◌++◌, codes, sym, ap, ◌∙◌, subst, append_assoc}
use Rattle.std.proofs.lemmas.Result.{on_ok_weaker}
use Rattle.ol_counts.specs.declared.tables.Row.TheVariants as row
use Rattle.ol_counts.specs.declared.tallies.Numbers.{Numbers}
use Rattle.ol_counts.specs.Objects.{ended_member, net_members, number_member, tally_object}
use Rattle.ol_counts.proofs.objects.put_tally.Goals as goal

-- a text to which three pieces were appended
appended : (t t1 t2 t3 a b c d : List ℕ) → t1 ≡ t ++ a → t2 ≡ t1 ++ b → t3 ≡ t2 ++ d → d ≡ c → t3 ≡ t ++ (a ++ b ++ c)
appended t t1 t2 t3 a b c d p q r s =
    r ∙ ap (λ (x : List ℕ). x ++ d) (q ∙ ap (λ (x : List ℕ). x ++ b) p) ∙ ap (λ (x : List ℕ). (t ++ a ++ b) ++ x) s
    ∙ append_assoc (t ++ a) b c ∙ append_assoc t a (b ++ c) ∙ ap (λ (x : List ℕ). t ++ x) (sym (append_assoc a b c))

pub returns-in_ok-put_net_members-in-Net : goal.returns-in_ok-put_net_members-in-Net
returns-in_ok-put_net_members-in-Net c =
    on_ok_weaker c.put.result
    (λ d. subst (λ (n : Numbers). c.put.new.text.items ≡ c.args.text.now.items ++ tally_object n c.args.tally.ended)
    (sym c.in-Net.is)
    (appended c.args.text.now.items c.put_number_member.new.text.items c.put_net_members.new.text.items
    c.put.new.text.items (codes "{" ++ number_member row.Beta c.in-Net.counts.beta)
    (net_members c.in-Net.counts c.in-Net.stuck c.in-Net.read) (ended_member c.args.tally.ended) c.as_bytes.result.now
    c.in_ok-put_number_member-in-Net.ensures c.in_ok-put_net_members-in-Net.ensures d
    (c.as_bytes.ensures.value ∙ c.ended_member.ensures))) c.put.ensures
