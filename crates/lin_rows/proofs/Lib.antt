mod MergeLemmas
