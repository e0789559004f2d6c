-- Which tokens spell a function, a class and a module: one relation for each line of the grammar and one case for each
-- alternative. Imports, `pass` in a class and the docstrings of a module and of a class leave nothing in the tree.
use Rattle.std.specs.Prelude.{ℕ, List, [], ◌∷◌, Option, Some, None}
use Rattle.py_base.specs.declared.Place.{Place}
use Rattle.py_tokens.specs.declared.Token.{Token}
use Rattle.py_tokens.specs.declared.TokenForm.TheVariants as forms
use Rattle.py_tokens.specs.declared.Keyword.TheVariants as keys
use Rattle.py_tokens.specs.declared.Mark.TheVariants as marks
use Rattle.raw_syntax.specs.declared.RawTy.{RawTy}
use Rattle.raw_syntax.specs.declared.RawStmt.{RawStmt}
use Rattle.raw_syntax.specs.declared.RawParam.{RawParam}
use Rattle.raw_syntax.specs.declared.RawFunc.{RawFunc}
use Rattle.raw_syntax.specs.declared.RawClass.{RawClass}
use Rattle.raw_syntax.specs.declared.RawItem.{RawItem}
use Rattle.raw_syntax.specs.declared.RawItem.TheVariants as items
use Rattle.raw_syntax.specs.declared.Raw.{Raw}
use Rattle.py_grammar.specs.TokenFronts.{Has, Past, PastName}
use Rattle.py_grammar.specs.StmtGrammar.{type_of, ReadsTy, ReadsTyAtom, ReadsBlock}

abbrev pub parameter : Place → List ℕ → Option RawTy → RawParam
parameter p n t = record { place = p; name = n; ty = t }

abbrev pub function : Place → List (List ℕ) → List ℕ → List RawParam → RawTy → List RawStmt → RawFunc
function p decorators n params result body = record { place = p; marks = decorators; name = n; params = params; ret = result; body = body }

abbrev pub class_of : Place → List ℕ → Option RawTy → List RawFunc → RawClass
class_of p n base members = record { place = p; name = n; base = base; members = members }

abbrev pub module_of : List RawItem → Place → Raw
module_of all p = record { items = all; «end» = p }

-- param = NAME [':' type]
pub data ReadsParam : RawParam → List Token → List Token → Type 0 where
  only_name : {p : Place} {n : List ℕ} {ts rest : List Token} → Has p (forms.Name n) ts rest → ReadsParam (parameter p n None) ts rest
  typed_name : {p : Place} {n : List ℕ} {t : RawTy} {ts a b rest : List Token} → Has p (forms.Name n) ts a → Past (forms.Mark marks.Colon) a b → ReadsTy t b rest → ReadsParam (parameter p n (Some t)) ts rest

-- [param {',' param} [',']] ')'
mutual
  pub data ReadsParams : List RawParam → List Token → List Token → Type 0 where
    no_param : {ts rest : List Token} → Past (forms.Mark marks.CloseParen) ts rest → ReadsParams [] ts rest
    param_more : {x : RawParam} {xs : List RawParam} {ts a rest : List Token} → ReadsParam x ts a → ReadsMoreParams xs a rest → ReadsParams (x ∷ xs) ts rest

  pub data ReadsMoreParams : List RawParam → List Token → List Token → Type 0 where
    params_end : {ts rest : List Token} → Past (forms.Mark marks.CloseParen) ts rest → ReadsMoreParams [] ts rest
    params_comma : {xs : List RawParam} {ts a rest : List Token} → Past (forms.Mark marks.Comma) ts a → ReadsParams xs a rest → ReadsMoreParams xs ts rest

-- {'@' NAME NEWLINE}
pub data ReadsDecorators : List (List ℕ) → List Token → List Token → Type 0 where
  no_decorator : {ts : List Token} → ReadsDecorators [] ts ts
  decorator_more : {n : List ℕ} {ns : List (List ℕ)} {ts a b c rest : List Token} → Past (forms.Mark marks.At) ts a → Past (forms.Name n) a b → Past forms.Newline b c → ReadsDecorators ns c rest → ReadsDecorators (n ∷ ns) ts rest

-- func = 'def' NAME '(' [param {',' param} [',']] ')' '->' type ':' block, with its decorators before it
pub data ReadsFunc : RawFunc → List Token → List Token → Type 0 where
  def_of : {p : Place} {n : List ℕ} {ns : List (List ℕ)} {params : List RawParam} {t : RawTy} {body : List RawStmt} {ts a b c d e f g h rest : List Token} → ReadsDecorators ns ts a → Past (forms.Key keys.Def) a b → Has p (forms.Name n) b c → Past (forms.Mark marks.OpenParen) c d → ReadsParams params d e → Past (forms.Mark marks.Arrow) e f → ReadsTy t f g → Past (forms.Mark marks.Colon) g h → ReadsBlock body h rest → ReadsFunc (function p ns n params t body) ts rest

-- [STRING NEWLINE]
pub data ReadsDoc : List Token → List Token → Type 0 where
  no_doc : {ts : List Token} → ReadsDoc ts ts
  doc_line : {n : List ℕ} {ts a rest : List Token} → Past (forms.Str n) ts a → Past forms.Newline a rest → ReadsDoc ts rest

-- {member} DEDENT, where member = 'pass' NEWLINE | {'@' NAME NEWLINE} func
pub data ReadsMembers : List RawFunc → List Token → List Token → Type 0 where
  members_end : {ts rest : List Token} → Past forms.Dedent ts rest → ReadsMembers [] ts rest
  pass_member : {fs : List RawFunc} {ts a b rest : List Token} → Past (forms.Key keys.Pass) ts a → Past forms.Newline a b → ReadsMembers fs b rest → ReadsMembers fs ts rest
  func_member : {f : RawFunc} {fs : List RawFunc} {ts a rest : List Token} → ReadsFunc f ts a → ReadsMembers fs a rest → ReadsMembers (f ∷ fs) ts rest

-- cbody = 'pass' NEWLINE | NEWLINE INDENT [STRING NEWLINE] {member} DEDENT
pub data ReadsClassBody : List RawFunc → List Token → List Token → Type 0 where
  pass_body : {ts a rest : List Token} → Past (forms.Key keys.Pass) ts a → Past forms.Newline a rest → ReadsClassBody [] ts rest
  member_lines : {fs : List RawFunc} {ts a b c rest : List Token} → Past forms.Newline ts a → Past forms.Indent a b → ReadsDoc b c → ReadsMembers fs c rest → ReadsClassBody fs ts rest

-- ['(' [NAME ['[' tyatom ']']] ')']
pub data ReadsBase : Option RawTy → List Token → List Token → Type 0 where
  no_base : {ts : List Token} → ReadsBase None ts ts
  empty_base : {ts a rest : List Token} → Past (forms.Mark marks.OpenParen) ts a → Past (forms.Mark marks.CloseParen) a rest → ReadsBase None ts rest
  base_name : {p : Place} {n : List ℕ} {ts a b rest : List Token} → Past (forms.Mark marks.OpenParen) ts a → Has p (forms.Name n) a b → Past (forms.Mark marks.CloseParen) b rest → ReadsBase (Some (type_of p n None)) ts rest
  base_of : {p q : Place} {n m : List ℕ} {ts a b c d e rest : List Token} → Past (forms.Mark marks.OpenParen) ts a → Has p (forms.Name n) a b → Past (forms.Mark marks.OpenBracket) b c → ReadsTyAtom q m c d → Past (forms.Mark marks.CloseBracket) d e → Past (forms.Mark marks.CloseParen) e rest → ReadsBase (Some (type_of p n (Some m))) ts rest

-- class = 'class' NAME ['(' [NAME ['[' tyatom ']']] ')'] ':' cbody
pub data ReadsClass : RawClass → List Token → List Token → Type 0 where
  class_with : {p : Place} {n : List ℕ} {base : Option RawTy} {fs : List RawFunc} {ts a b c d rest : List Token} → Past (forms.Key keys.Class) ts a → Has p (forms.Name n) a b → ReadsBase base b c → Past (forms.Mark marks.Colon) c d → ReadsClassBody fs d rest → ReadsClass (class_of p n base fs) ts rest

-- {'.' NAME}
pub data ReadsDots : List Token → List Token → Type 0 where
  no_dot : {ts : List Token} → ReadsDots ts ts
  dot_more : {ts a b rest : List Token} → Past (forms.Mark marks.Dot) ts a → PastName a b → ReadsDots b rest → ReadsDots ts rest

-- {',' NAME}
pub data ReadsCommas : List Token → List Token → Type 0 where
  no_comma : {ts : List Token} → ReadsCommas ts ts
  comma_more : {ts a b rest : List Token} → Past (forms.Mark marks.Comma) ts a → PastName a b → ReadsCommas b rest → ReadsCommas ts rest

-- '*' | NAME {',' NAME}
pub data ReadsImported : List Token → List Token → Type 0 where
  all_names : {ts rest : List Token} → Past (forms.Mark marks.Star) ts rest → ReadsImported ts rest
  some_names : {ts a rest : List Token} → PastName ts a → ReadsCommas a rest → ReadsImported ts rest

-- {import}, where import = 'from' NAME {'.' NAME} 'import' ('*' | NAME {',' NAME}) NEWLINE
pub data ReadsImports : List Token → List Token → Type 0 where
  no_import : {ts : List Token} → ReadsImports ts ts
  import_more : {ts a b c d e f rest : List Token} → Past (forms.Key keys.From) ts a → PastName a b → ReadsDots b c → Past (forms.Key keys.Import) c d → ReadsImported d e → Past forms.Newline e f → ReadsImports f rest → ReadsImports ts rest

-- {item}, where item = class | {'@' NAME NEWLINE} func
pub data ReadsItems : List RawItem → List Token → List Token → Type 0 where
  no_item : {ts : List Token} → ReadsItems [] ts ts
  class_item : {x : RawClass} {xs : List RawItem} {ts a rest : List Token} → ReadsClass x ts a → ReadsItems xs a rest → ReadsItems (items.Class x ∷ xs) ts rest
  func_item : {f : RawFunc} {xs : List RawItem} {ts a rest : List Token} → ReadsFunc f ts a → ReadsItems xs a rest → ReadsItems (items.Func f ∷ xs) ts rest

-- module = [STRING NEWLINE] {import} {item} END
pub data ReadsModule : Raw → List Token → List Token → Type 0 where
  module_with : {xs : List RawItem} {p : Place} {ts a b c rest : List Token} → ReadsDoc ts a → ReadsImports a b → ReadsItems xs b c → Has p forms.End c rest → ReadsModule (module_of xs p) ts rest
