mod SceneLemmas
mod SpanLemmas
