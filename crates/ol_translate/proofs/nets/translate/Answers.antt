use Rattle.std.proofs.Common.{◌+◌, length, Err, refl, ap, ◌∙◌, arith}
use Rattle.std.proofs.lemmas.Result.{err_from_is_err_and}
use Rattle.ol_term.specs.Trees.{tree_of}
use Rattle.ol_net.specs.Numbered.{net_of}
use Rattle.ol_translate.specs.Sizes.{size_of_translation}
use Rattle.ol_translate.proofs.Bound.{few_names, few_links}
use Rattle.ol_translate.proofs.Sizing.{size_of_nodes}
use Rattle.ol_net.proofs.Linking.{length-all_live}
use Rattle.ol_translate.proofs.Fitting.{never_refused, same_translation}
use Rattle.ol_translate.proofs.Indexes.{top_is_low}
use Rattle.ol_net.specs.Indexes.{top_index_of}
use Rattle.ol_translate.proofs.Answering.{names_of, refused_where, given_where}
use Rattle.ol_translate.proofs.nets.translate.Goals as goal

pub returns-in_err-parts-clause-too_many : goal.returns-in_err-parts-clause-too_many
returns-in_err-parts-clause-too_many c =
    let p = err_from_is_err_and c.from_residual.result c.from_residual.ensures.1 in
    refused_where c.from_residual.result c.in_err-parts.field-0.0 200000
    (size_of_translation c.args.translation (tree_of c.args.file.now.term))
    (p.1 ∙ ap (λ e. Err e) p.2) (λ is. omega
    (arith, c.in_err-parts.ensures.too_many is, size_of_nodes c.args.translation (tree_of c.args.file.now.term)))

pub overflow_add-len : goal.overflow_add-len
overflow_add-len c =
    let names = few_names c.args.translation (tree_of c.args.file.now.term)
    (length c.args.file.now.names) (names_of c.args.file.now c.requires.each_name) in
    omega (arith, names, ap length c.in_ok-parts.ensures.nodes, c.len.ensures, c.in_ok-parts.parts.few)

pub build-requires-clause-few_links : goal.build-requires-clause-few_links
build-requires-clause-few_links c =
    omega (
      arith,
      few_links c.args.translation (tree_of c.args.file.now.term),
      ap length c.in_ok-parts.ensures.nodes,
      ap length c.in_ok-parts.ensures.links,
      c.in_ok-parts.parts.few,
      c.in_ok-parts.parts.links.ok.0,
    )

pub unreachable-requires : goal.unreachable-requires
unreachable-requires c =
    never_refused c.args.translation (tree_of c.args.file.now.term) (length c.args.file.now.names)
    (c.len.result + 1) c.in_ok-parts.parts.nodes.items c.in_ok-parts.parts.links.items
    c.in-Err.fault (names_of c.args.file.now c.requires.each_name)
    (omega (arith, c.len.ensures)) c.in_ok-parts.ensures.nodes c.in_ok-parts.ensures.links c.in_ok-parts.parts.few
    c.in-Err.ensures.fault c.in_default.not-NoMemory

pub returns-in-Ok-clause-net : goal.returns-in-Ok-clause-net
returns-in-Ok-clause-net c =
    same_translation c.args.translation (tree_of c.args.file.now.term)
    (length c.args.file.now.names) (c.len.result + 1) c.in_ok-parts.parts.nodes.items
    c.in_ok-parts.parts.links.items
    (net_of c.in-Ok.net) (omega (arith, c.len.ensures)) c.in_ok-parts.ensures.nodes
    c.in_ok-parts.ensures.links c.in-Ok.ensures.built.same_net

pub returns-in-Ok-clause-size : goal.returns-in-Ok-clause-size
returns-in-Ok-clause-size c =
    ap length c.in-Ok.ensures.built.same_nodes ∙ length-all_live c.in_ok-parts.parts.nodes.items
    ∙ ap length c.in_ok-parts.ensures.nodes
    ∙ size_of_nodes c.args.translation (tree_of c.args.file.now.term)

pub returns-in-Ok-clause-too_many : goal.returns-in-Ok-clause-too_many
returns-in-Ok-clause-too_many c =
    λ _. given_where _ c.in-Ok.net 200000 (size_of_translation c.args.translation (tree_of c.args.file.now.term)) refl
    (omega (
      arith,
      size_of_nodes c.args.translation (tree_of c.args.file.now.term),
      ap length c.in_ok-parts.ensures.nodes,
      c.in_ok-parts.parts.few,
    ))

pub returns-in-Ok-clause-few_names : goal.returns-in-Ok-clause-few_names
returns-in-Ok-clause-few_names c =
    omega (
      arith,
      few_names c.args.translation (tree_of c.args.file.now.term) (length c.args.file.now.names)
          (names_of c.args.file.now c.requires.each_name),
      ap length c.in-Ok.ensures.built.same_nodes,
      length-all_live c.in_ok-parts.parts.nodes.items,
      ap length c.in_ok-parts.ensures.nodes,
    )

pub returns-in-Ok-clause-indexes : goal.returns-in-Ok-clause-indexes
returns-in-Ok-clause-indexes c =
    omega (
      arith,
      ap top_index_of c.in-Ok.ensures.built.same_nodes,
      top_is_low 1000000 c.in_ok-parts.parts.nodes.items c.in-Ok.ensures.built.good_indexes,
    )
