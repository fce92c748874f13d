mod Lives
mod Lost
