use Rattle.std.proofs.Common.{◌≡◌, ℕ, length, List, [], ◌∷◌, ◌++◌, arith, ◌∙◌, ap}
use Rattle.ol_wire.specs.declared.layout.Parts.{Parts}
use Rattle.ol_wire.specs.Layout.{start_cell}
use Rattle.ol_wire.specs.Weights.{sum_below}
use Rattle.ol_wire.specs.Credit.{active_at}
use Rattle.ol_wire.proofs.Credit.Opening.{laid_with, live_with}
use Rattle.ol_wire.proofs.Opening.Lists.{wires_bound, start_length, laid}
use Rattle.ol_wire.proofs.net_words.lay_out.Goals as goal

pub put_nodes-requires-clause-behind : goal.put_nodes-requires-clause-behind
put_nodes-requires-clause-behind c =
    let z : Parts = record {
      free = c.free_ports.result;
      nodes = c.born.result;
      wires = 0;
      cells = 0;
      fuel = c.args.fuel.most;
    } in
    let ea : c.put-2.new.words.items ≡ 0 ∷ 0 ∷ [] = c.in_ok-put-2.ensures
    ∙ ap (λ xs. xs ++ 0 ∷ []) (c.in_ok-put.ensures ∙ ap (λ xs. xs ++ 0 ∷ []) c.in_ok-words.ensures.items) in
    start_length c.args.net.now z c.put-2.new.words.items c.put_ports.new.words.items
    c.free_ports.ensures.free ea c.in_ok-put_ports.ensures

pub returns-clause-small : goal.returns-clause-small
returns-clause-small c =
    let w = wires_bound c.args.net.now c.in_ok-wires.wires c.in_ok-wires.ensures.wires in
    record {
      free = omega (arith, c.requires.small, c.free_ports.ensures.free);
      nodes = omega (arith, c.requires.small, c.born.ensures.born);
      wires = omega (arith, c.requires.small, w);
      cells = omega (arith, c.requires.small, c.in_ok-cells.ensures.few);
      fuel = c.args.fuel.within;
    }

pub count_active-requires-clause-small : goal.count_active-requires-clause-small
count_active-requires-clause-small c =
    let w = wires_bound c.args.net.now c.in_ok-wires.wires c.in_ok-wires.ensures.wires in
    record {
      free = omega (arith, c.requires.small, c.free_ports.ensures.free);
      nodes = omega (arith, c.requires.small, c.born.ensures.born);
      wires = omega (arith, c.requires.small, w);
      cells = omega (arith, c.requires.small, c.in_ok-cells.ensures.few);
      fuel = c.args.fuel.within;
    }

pub count_active-requires-clause-wide : goal.count_active-requires-clause-wide
count_active-requires-clause-wide c =
    let z : Parts = record {
      free = c.free_ports.result;
      nodes = c.born.result;
      wires = c.in_ok-wires.wires;
      cells = c.in_ok-cells.cells;
      fuel = c.args.fuel.most;
    } in
    let ea : c.put-2.new.words.items ≡ 0 ∷ 0 ∷ [] = c.in_ok-put-2.ensures
    ∙ ap (λ xs. xs ++ 0 ∷ []) (c.in_ok-put.ensures ∙ ap (λ xs. xs ++ 0 ∷ []) c.in_ok-words.ensures.items) in
    let is_laid = laid c.args.net.now z c.put-2.new.words.items c.put_ports.new.words.items
    c.put_nodes.new.words.items c.put_empty.new.words.items c.put_cells.new.words.items
    c.put_empty-2.new.words.items c.free_ports.ensures.free c.born.ensures.born ea
    c.in_ok-put_ports.ensures c.in_ok-wires.ensures.added c.in_ok-put_empty.ensures
    c.in_ok-cells.ensures.added c.in_ok-put_empty-2.ensures c.in_ok-cells.ensures.cells in
    ap length c.as_slice.ensures.value ∙ is_laid.wide

pub returns-clause-laid : goal.returns-clause-laid
returns-clause-laid c =
    let z : Parts = record {
      free = c.free_ports.result;
      nodes = c.born.result;
      wires = c.in_ok-wires.wires;
      cells = c.in_ok-cells.cells;
      fuel = c.args.fuel.most;
    } in
    let ea : c.put-2.new.words.items ≡ 0 ∷ 0 ∷ [] = c.in_ok-put-2.ensures
    ∙ ap (λ xs. xs ++ 0 ∷ []) (c.in_ok-put.ensures ∙ ap (λ xs. xs ++ 0 ∷ []) c.in_ok-words.ensures.items) in
    laid_with c.args.net.now z c.put_empty-2.new.words.items
    (laid c.args.net.now z c.put-2.new.words.items c.put_ports.new.words.items
    c.put_nodes.new.words.items c.put_empty.new.words.items c.put_cells.new.words.items
    c.put_empty-2.new.words.items c.free_ports.ensures.free c.born.ensures.born ea
    c.in_ok-put_ports.ensures c.in_ok-wires.ensures.added c.in_ok-put_empty.ensures
    c.in_ok-cells.ensures.added c.in_ok-put_empty-2.ensures c.in_ok-cells.ensures.cells)
    c.count_active.result

pub returns-clause-live : goal.returns-clause-live
returns-clause-live c =
    let z : Parts = record {
      free = c.free_ports.result;
      nodes = c.born.result;
      wires = c.in_ok-wires.wires;
      cells = c.in_ok-cells.cells;
      fuel = c.args.fuel.most;
    } in
    let ea : c.put-2.new.words.items ≡ 0 ∷ 0 ∷ [] = c.in_ok-put-2.ensures
    ∙ ap (λ xs. xs ++ 0 ∷ []) (c.in_ok-put.ensures ∙ ap (λ xs. xs ++ 0 ∷ []) c.in_ok-words.ensures.items) in
    let is_laid = laid c.args.net.now z c.put-2.new.words.items c.put_ports.new.words.items
    c.put_nodes.new.words.items c.put_empty.new.words.items c.put_cells.new.words.items
    c.put_empty-2.new.words.items c.free_ports.ensures.free c.born.ensures.born ea
    c.in_ok-put_ports.ensures c.in_ok-wires.ensures.added c.in_ok-put_empty.ensures
    c.in_ok-cells.ensures.added c.in_ok-put_empty-2.ensures c.in_ok-cells.ensures.cells in
    live_with c.args.net.now z c.put_empty-2.new.words.items is_laid c.count_active.result
    (c.count_active.ensures ∙ ap (λ (ws : List ℕ).
    sum_below z.cells (λ a. active_at ws (start_cell z a))) c.as_slice.ensures.value)
