pub mod KeySearch
pub mod SeenFacts
pub mod WhyFacts
