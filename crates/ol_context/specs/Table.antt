-- The crossings from slot 0 as a table that computes: the slot by which the walk leaves, and the context there.
use Rattle.std.specs.Prelude.{ℕ, zero, suc, Option, Some, None}
use Rattle.ol_net.specs.declared.parts.Kind.{Kind}
use Rattle.ol_net.specs.declared.parts.Kind.TheVariants as kind
use Rattle.ol_context.specs.Contexts.{Level, empty, o, star, pair, Context, cons, tail}

-- for a node of index 0, from level 0 and the later levels
abbrev pub unmark : Level → Context → Option (ℕ × Context)
unmark (o v) c = Some (1, cons v c)
unmark (star v) c = Some (2, cons v c)
unmark empty c = None
unmark (pair v w) c = None

abbrev pub unput : Level → Context → Option (ℕ × Context)
unput empty c = Some (1, c)
unput (o v) c = None
unput (star v) c = None
unput (pair v w) c = None

abbrev pub unpack : Level → Context → Option (ℕ × Context)
unpack (pair v w) c = Some (1, cons w (cons v c))
unpack empty c = None
unpack (o v) c = None
unpack (star v) c = None

abbrev pub unchange : Kind → Context → Option (ℕ × Context)
unchange kind.Lam c = unmark (c 0) (tail c)
unchange kind.App c = unmark (c 0) (tail c)
unchange kind.Fan c = unmark (c 0) (tail c)
unchange kind.Croissant c = unput (c 0) (tail c)
unchange kind.Bracket c = unpack (c 0) (tail c)
unchange kind.Eraser c = None

-- a level that stays before the others
abbrev pub behind_level : Level → Option (ℕ × Context) → Option (ℕ × Context)
behind_level v None = None
behind_level v (Some r) = Some (r.0, cons v r.1)

-- for a node of this kind and index
abbrev pub down : Kind → ℕ → Context → Option (ℕ × Context)
down k zero c = unchange k c
down k (suc i) c = behind_level (c 0) (down k i (tail c))
