pub mod Laws
pub mod Adding
pub mod PlanLoads
pub mod Room
