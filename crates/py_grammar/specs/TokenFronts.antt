-- What a list of tokens begins with.
use Rattle.std.specs.Prelude.{ℕ, List, ◌∷◌, ◌≡◌}
use Rattle.py_base.specs.declared.Place.{Place}
use Rattle.py_tokens.specs.declared.Token.{Token}
use Rattle.py_tokens.specs.declared.TokenForm.{TokenForm}
use Rattle.py_tokens.specs.declared.TokenForm.TheVariants as forms

-- The tokens begin with one of this form at this place, and these are left.
abbrev pub Has : Place → TokenForm → List Token → List Token → Type 0
Has p f ts rest = (e : Place) × (ts ≡ record { place = p; «end» = e; form = f } ∷ rest)

-- The tokens begin with one of this form, and these are left.
abbrev pub Past : TokenForm → List Token → List Token → Type 0
Past f ts rest = (p : Place) × Has p f ts rest

-- The tokens begin with a name, and these are left.
abbrev pub PastName : List Token → List Token → Type 0
PastName ts rest = (n : List ℕ) × Past (forms.Name n) ts rest

-- The first token stands at this place.
abbrev pub BeginsAt : Place → List Token → Type 0
BeginsAt p ts = (k : Token) × (rest : List Token) × (ts ≡ k ∷ rest) × (k.place ≡ p)
