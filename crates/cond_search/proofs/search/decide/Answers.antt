use Rattle.cond_search.proofs.search.decide.Goals as goal

pub search-requires : goal.search-requires
search-requires c = record {
  is_sorted = c.requires.sorted;
  plan = c.requires.plan;
  forms = c.requires.forms;
  facts = c.requires.facts;
  apart = c.requires.apart;
}
