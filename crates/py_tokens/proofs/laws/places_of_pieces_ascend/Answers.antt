use Rattle.py_tokens.specs.CutLaws.{piece_spans, pieces_touch, places_ascend, escape_within}
use Rattle.py_tokens.proofs.laws.places_of_pieces_ascend.Goals as goal

pub returns-clause-spans : goal.returns-clause-spans
returns-clause-spans c = piece_spans

pub returns-clause-touch : goal.returns-clause-touch
returns-clause-touch c = pieces_touch

pub returns-clause-ascend : goal.returns-clause-ascend
returns-clause-ascend c = places_ascend

pub returns-clause-within : goal.returns-clause-within
returns-clause-within c = escape_within
