-- What the machine does at the symbols of modules.
use Rattle.std.proofs.Common.{ℕ, ◌≡◌, refl, ◌∙◌, List, [], ◌∷◌, ◌++◌, ap, append_assoc}
use Rattle.py_tokens.specs.declared.Token.{Token}
use Rattle.py_tokens.specs.declared.TokenForm.TheVariants as forms
use Rattle.py_tokens.specs.declared.Keyword.TheVariants as keys
use Rattle.py_tokens.specs.declared.Mark.TheVariants as marks
use Rattle.raw_syntax.specs.declared.RawFunc.{RawFunc}
use Rattle.raw_syntax.specs.declared.RawItem.{RawItem}
use Rattle.raw_syntax.specs.declared.RawItem.TheVariants as things
use Rattle.py_grammar.specs.ModuleGrammar.{module_of}
use Rattle.py_grammar.specs.Symbols.{Value, vfunc, vmarks, vitems, vmodule, newline, word_import, Sym, fixed, make, doc, any_name, dots, commas, imported, imports, items, skip, stop}
use Rattle.py_grammar.specs.Makers.{make_item, make_module}
use Rattle.py_grammar.specs.Moves.{next_doc, next_any_name, next_dots, next_commas, next_imported, next_imports}
use Rattle.py_grammar.specs.Machine.{bad, short, run}
use Rattle.py_grammar.specs.MachineRows.{taken, passed_by, stopped, ended, row_make}
use Rattle.py_parser.specs.declared.opening.FuncStart.{FuncStart}
use Rattle.py_parser.specs.declared.opening.ItemStart.TheVariants as openings
use Rattle.py_parser.specs.Openings.{func_symbols, class_symbols, ItemBy}

-- docstrings
pub row_doc : (r : List Token) (k : Token) (S : List Sym) (V : List Value) (n : List ℕ) → k.form ≡ forms.Str n → run (k ∷ r) (doc ∷ S) V ≡ run r (fixed newline ∷ S) V
row_doc r k S V n f = taken r k doc S V (fixed newline ∷ []) [] (rw f refl)

pub row_no_doc : (r : List Token) (k : Token) (S : List Sym) (V : List Value) → next_doc k.form ≡ skip → run (k ∷ r) (doc ∷ S) V ≡ run (k ∷ r) S V
row_no_doc r k S V f = passed_by r k doc S V f

pub short_doc : (S : List Sym) (V : List Value) → run [] (doc ∷ S) V ≡ short
short_doc S V = ended doc S V refl

-- imports
pub row_any_name : (r : List Token) (k : Token) (S : List Sym) (V : List Value) (n : List ℕ) → k.form ≡ forms.Name n → run (k ∷ r) (any_name ∷ S) V ≡ run r S V
row_any_name r k S V n f = taken r k any_name S V [] [] (rw f refl)

pub row_any_name_stop : (r : List Token) (k : Token) (S : List Sym) (V : List Value) → next_any_name k.form ≡ stop → run (k ∷ r) (any_name ∷ S) V ≡ bad k.place
row_any_name_stop r k S V f = stopped r k any_name S V f

pub short_any_name : (S : List Sym) (V : List Value) → run [] (any_name ∷ S) V ≡ short
short_any_name S V = ended any_name S V refl

pub row_dot : (r : List Token) (k : Token) (S : List Sym) (V : List Value) → k.form ≡ forms.Mark marks.Dot → run (k ∷ r) (dots ∷ S) V ≡ run r (any_name ∷ dots ∷ S) V
row_dot r k S V f = taken r k dots S V (any_name ∷ dots ∷ []) [] (rw f refl)

pub row_no_dot : (r : List Token) (k : Token) (S : List Sym) (V : List Value) → next_dots k.form ≡ skip → run (k ∷ r) (dots ∷ S) V ≡ run (k ∷ r) S V
row_no_dot r k S V f = passed_by r k dots S V f

pub short_dots : (S : List Sym) (V : List Value) → run [] (dots ∷ S) V ≡ short
short_dots S V = ended dots S V refl

pub row_comma : (r : List Token) (k : Token) (S : List Sym) (V : List Value) → k.form ≡ forms.Mark marks.Comma → run (k ∷ r) (commas ∷ S) V ≡ run r (any_name ∷ commas ∷ S) V
row_comma r k S V f = taken r k commas S V (any_name ∷ commas ∷ []) [] (rw f refl)

pub row_no_comma : (r : List Token) (k : Token) (S : List Sym) (V : List Value) → next_commas k.form ≡ skip → run (k ∷ r) (commas ∷ S) V ≡ run (k ∷ r) S V
row_no_comma r k S V f = passed_by r k commas S V f

pub short_commas : (S : List Sym) (V : List Value) → run [] (commas ∷ S) V ≡ short
short_commas S V = ended commas S V refl

pub row_all_names : (r : List Token) (k : Token) (S : List Sym) (V : List Value) → k.form ≡ forms.Mark marks.Star → run (k ∷ r) (imported ∷ S) V ≡ run r S V
row_all_names r k S V f = taken r k imported S V [] [] (rw f refl)

pub row_some_names : (r : List Token) (k : Token) (S : List Sym) (V : List Value) (n : List ℕ) → k.form ≡ forms.Name n → run (k ∷ r) (imported ∷ S) V ≡ run r (commas ∷ S) V
row_some_names r k S V n f = taken r k imported S V (commas ∷ []) [] (rw f refl)

pub row_imported_stop : (r : List Token) (k : Token) (S : List Sym) (V : List Value) → next_imported k.form ≡ stop → run (k ∷ r) (imported ∷ S) V ≡ bad k.place
row_imported_stop r k S V f = stopped r k imported S V f

pub short_imported : (S : List Sym) (V : List Value) → run [] (imported ∷ S) V ≡ short
short_imported S V = ended imported S V refl

pub row_import : (r : List Token) (k : Token) (S : List Sym) (V : List Value) → k.form ≡ forms.Key keys.From → run (k ∷ r) (imports ∷ S) V ≡ run r (any_name ∷ dots ∷ fixed word_import ∷ imported ∷ fixed newline ∷ imports ∷ S) V
row_import r k S V f = taken r k imports S V (any_name ∷ dots ∷ fixed word_import ∷ imported ∷ fixed newline ∷ imports ∷ []) [] (rw f refl)

pub row_no_import : (r : List Token) (k : Token) (S : List Sym) (V : List Value) → next_imports k.form ≡ skip → run (k ∷ r) (imports ∷ S) V ≡ run (k ∷ r) S V
row_no_import r k S V f = passed_by r k imports S V f

pub short_imports : (S : List Sym) (V : List Value) → run [] (imports ∷ S) V ≡ short
short_imports S V = ended imports S V refl

-- items
pub row_end : (r : List Token) (k : Token) (S : List Sym) (V : List Value) (xs : List RawItem) → ItemBy openings.End k.place k.form → run (k ∷ r) (items ∷ S) (vitems xs ∷ V) ≡ run r S (vmodule (module_of xs k.place) ∷ V)
row_end r k S V xs f = taken r k items S (vitems xs ∷ V) (make (make_module k.place) ∷ []) [] f ∙ row_make (make_module k.place) S (vitems xs ∷ V) r

pub row_class_item : (r : List Token) (k : Token) (S : List Sym) (V : List Value) → ItemBy openings.Class k.place k.form → run (k ∷ r) (items ∷ S) V ≡ run r (class_symbols ++ items ∷ S) V
row_class_item r k S V f = taken r k items S V (class_symbols ++ items ∷ []) [] f

pub row_func_item : (r : List Token) (k : Token) (S : List Sym) (V : List Value) (s : FuncStart) → ItemBy (openings.Func s) k.place k.form → run (k ∷ r) (items ∷ S) V ≡ run r (func_symbols s ++ make make_item ∷ items ∷ S) (vmarks [] ∷ V)
row_func_item r k S V s f =
    taken r k items S V (func_symbols s ++ make make_item ∷ items ∷ []) (vmarks [] ∷ []) f
    ∙ ap (λ (T : List Sym). run r T (vmarks [] ∷ V)) (append_assoc (func_symbols s) (make make_item ∷ items ∷ []) S)

pub row_items_stop : (r : List Token) (k : Token) (S : List Sym) (V : List Value) → ItemBy openings.Other k.place k.form → run (k ∷ r) (items ∷ S) V ≡ bad k.place
row_items_stop r k S V f = stopped r k items S V f

pub made_item : (ts : List Token) (S : List Sym) (V : List Value) (xs : List RawItem) (f : RawFunc) → run ts (make make_item ∷ S) (vfunc f ∷ vitems xs ∷ V) ≡ run ts S (vitems (xs ++ things.Func f ∷ []) ∷ V)
made_item ts S V xs f = row_make make_item S (vfunc f ∷ vitems xs ∷ V) ts

pub short_items : (S : List Sym) (V : List Value) → run [] (items ∷ S) V ≡ short
short_items S V = ended items S V refl

-- what each function needs
pub ruleset doc_rows = (row_doc, row_no_doc, short_doc)

pub ruleset any_name_rows = (row_any_name, row_any_name_stop, short_any_name)

pub ruleset dot_rows = (row_dot, row_no_dot, short_dots)

pub ruleset comma_rows = (row_comma, row_no_comma, short_commas)

pub ruleset imported_rows = (row_all_names, row_some_names, row_imported_stop, short_imported)

pub ruleset import_rows = (row_import, row_no_import, short_imports)

pub ruleset item_rows = (row_end, row_class_item, row_func_item, row_items_stop, made_item, short_items)
