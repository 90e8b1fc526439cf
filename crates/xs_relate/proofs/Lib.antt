mod BelowLemmas
mod ReadLemmas
