-- A line is put piece by piece.
use Rattle.std.proofs.Common.{rules, arith, ◌≡◌, ℕ, List, Option, [], ◌∷◌, ◌++◌, sym, subst, ◌∙◌}
use Rattle.std.specs.Prelude.{string_bytes}
use Rattle.std.proofs.lemmas.List.{append_assoc}
use Rattle.ol_net.specs.declared.parts.Kind.{Kind}
use Rattle.ol_net.specs.Parts.{slots_of}
use Rattle.ol_net.specs.PartTexts.{kind_text, index_text}
use Rattle.ol_view.specs.TraceTexts.{name_text}
use Rattle.ol_explain.specs.NamedTexts.{named_node, named_partners}
use Rattle.ol_explain.specs.Besides.{beside_words}
use Rattle.ol_orders.specs.Replays.{names_of}
use Rattle.ol_explain.proofs.naming.put_node.Goals as goal

joined : (b0 b1 b2 b3 b4 b5 b6 b7 n k i p : List ℕ) → b1 ≡ b0 ++ n → b2 ≡ b1 ++ 32 ∷ [] →
    b3 ≡ b2 ++ k → b4 ≡ b3 ++ 32 ∷ [] → b5 ≡ b4 ++ i → b6 ≡ b5 ++ p → b7 ≡ b6 ++ 10 ∷ []
    → b7 ≡ b0 ++ (n ++ (32 ∷ k ++ (32 ∷ i ++ (p ++ 10 ∷ []))))
joined b0 b1 b2 b3 b4 b5 b6 b7 n k i p e1 e2 e3 e4 e5 e6 e7 = search (rules, append_assoc)

pub returns : goal.returns
returns c =
    let g = c.args.replay.now.net in
    let names = names_of c.args.replay.now in
    let beside = beside_words c.args.beside.now c.args.replay.now in
    let b0 = string_bytes c.args.text.now in
    let b5 = string_bytes c.put_shown-2.new.text in
    let b6 = string_bytes c.loop-slot.text in
    let b7 = string_bytes c.put-3.new.text in
    let kind = c.in-Some.kind in
    let index = c.in-Some.index in
    let end : c.loop-slot.slot ≡ slots_of kind = (let t = c.loop-slot-test.false in
    let e = c.slots-slot-end.ensures in let i = c.loop-slot.far-slot in omega arith) in
    let partners = subst (λ s. b6 ≡ b5 ++ named_partners names beside g c.args.node.0 s) end
    c.loop-slot.invariant in
    let name = subst (λ x. string_bytes c.put_name.new.text ≡ b0 ++ name_text x) c.name_of.ensures
    c.in_ok-put_name.ensures in
    let line = joined b0 (string_bytes c.put_name.new.text) (string_bytes c.put.new.text)
    (string_bytes c.put_shown.new.text) (string_bytes c.put-2.new.text) b5 b6 b7
    (name_text (names c.args.node.0)) (kind_text kind) (index_text kind index)
    (named_partners names beside g c.args.node.0 (slots_of kind))
    name c.in_ok-put.ensures c.in_ok-put_shown.ensures c.in_ok-put-2.ensures
    c.in_ok-put_shown-2.ensures partners c.in_ok-put-3.ensures in
    subst (λ (k : Option (Kind × ℕ)). b7 ≡ b0 ++ named_node names beside g c.args.node.0 k)
    (sym c.in-Some.is ∙ c.kind_of.ensures.table) line
