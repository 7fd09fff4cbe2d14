use Rattle.std.proofs.Common.{◌≡◌, ◌∙◌, true, get_or}
use Rattle.std.specs.Str.{bytes_eq}
use Rattle.ol_io.proofs.Named.{contents_of-found}
use Rattle.ol_io.proofs.files.find_file.Goals as goal

pub returns-then-is_named : goal.returns-then-is_named
returns-then-is_named c =
    let here : bytes_eq (get_or c.args.files.now c.loop-place.place c.index-files-place.result).name
    c.args.name.now ≡ true = cc in
    c.loop-place.invariant ∙ contents_of-found c.args.files.now c.args.name.now c.loop-place.place
    c.index-files-place.result c.loop-place-test.true here
