-- What is found in a module: a fault of a kind at a place in a method; and the order in which findings are reported, by place, kind and method.
use Rattle.std.specs.Prelude.{◌≡◌, ◌⊎◌, ◌<◌, ℕ, List, [], ◌∷◌, All}
use Rattle.py_base.specs.declared.Place.{Place}
use Rattle.py_base.specs.declared.Kind.{Kind}
use Rattle.py_base.specs.Kinds.{number_of}

pub record Finding : Type 0 where
  pub place : Place
  pub kind : Kind
  pub method : ℕ

-- by line and then by column
abbrev pub StandsBefore : Place → Place → Type 0
StandsBefore p q = (p.line < q.line) ⊎ ((p.line ≡ q.line) × (p.col < q.col))

-- by kind and then by method
abbrev pub ComesFirst : Finding → Finding → Type 0
ComesFirst f g = (number_of f.kind < number_of g.kind) ⊎ ((f.kind ≡ g.kind) × (f.method < g.method))

abbrev pub IsBefore : Finding → Finding → Type 0
IsBefore f g = StandsBefore f.place g.place ⊎ ((f.place ≡ g.place) × ComesFirst f g)

-- each finding is before those that follow it
abbrev pub AreInOrder : List Finding → Type 0
AreInOrder [] = Unit {0}
AreInOrder (f ∷ fs) = All (IsBefore f) fs × AreInOrder fs
